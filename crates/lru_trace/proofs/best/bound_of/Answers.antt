use Rattle.std.proofs.Common.{◌+◌, ◌<◌, get_or, arith, subst}
use Rattle.std.proofs.lemmas.List.{take_all}
use Rattle.std.specs.List.{All}
use Rattle.lru_trace.proofs.SeenTimes.{at_least, bounded_more}
use Rattle.lru_trace.proofs.best.bound_of.Goals as goal

pub loop-number-preserved : goal.loop-number-preserved
loop-number-preserved c = bounded_more c.args.numbers.now c.loop-number.number-index c.loop-number.bound
    c.max-bound.result c.loop-number-test.true c.loop-number.invariant
    (omega (arith, c.max-bound.ensures, (at_least c.loop-number.bound (get_or c.args.numbers.now c.loop-number.number-index 0 + 1)).0))
    (omega (arith, c.max-bound.ensures, (at_least c.loop-number.bound (get_or c.args.numbers.now c.loop-number.number-index 0 + 1)).1))

pub returns : goal.returns
returns c = subst (All (λ n. n < c.loop-number.bound))
    (take_all c.loop-number.number-index c.args.numbers.now (omega (arith, c.loop-number-test.false))) c.loop-number.invariant
