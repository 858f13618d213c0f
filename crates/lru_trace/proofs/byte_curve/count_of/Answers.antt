use Rattle.std.proofs.Common.{length, get_or, sym, ap, ◌∙◌, arith}
use Rattle.lru_trace.specs.Sized.{exceeds}
use Rattle.lru_trace.proofs.SizedSteps.{below_found, below_none}
use Rattle.lru_trace.proofs.byte_curve.count_of.Goals as goal

pub returns-then-need-limits-clause-below : goal.returns-then-need-limits-clause-below
returns-then-need-limits-clause-below c = λ i h.
    below_found c.args.limits.now c.in-Some.need c.requires c.loop-i.i c.loop-i-test.true c.loop-i.invariant
    c.if-need-limits.true i h
    ∙ ap (λ o. exceeds o (get_or c.args.limits.now i 0)) (sym c.in-Some.is)

pub returns-after-loop-i-clause-below : goal.returns-after-loop-i-clause-below
returns-after-loop-i-clause-below c = λ i h.
    below_none c.args.limits.now c.in-Some.need (length c.args.limits.now) (omega arith)
    (λ j few. c.loop-i.invariant j (omega (arith, few, c.loop-i-test.false))) i h
    ∙ ap (λ o. exceeds o (get_or c.args.limits.now i 0)) (sym c.in-Some.is)
