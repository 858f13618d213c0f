use Rattle.std.proofs.Common.{◌-◌, arith, ◌∙◌, ap, length, subst, sym}
use Rattle.std.proofs.lemmas.List.{length-take}
use Rattle.std.specs.Str.{bytes_eq}
use Rattle.lru_theory.specs.Best.{min_refer}
use Rattle.std.specs.Prelude.{not}
use Rattle.lru_trace.specs.Times.{with_time}
use Rattle.lru_trace.proofs.Times.{Missed, at_most_one, nothing_missed}
use Rattle.lru_trace.proofs.Turns.{min_turn, turns_end, no_places}
use Rattle.lru_trace.proofs.best.Best.min_misses.Goals as goal

pub returns-then-places-eq0 : goal.returns-then-places-eq0
returns-then-places-eq0 c = λ trace are. c.end-end.ensures ∙ no_places trace are c.args.places c.if-places-eq0.true

pub loop-now-init : goal.loop-now-init
loop-now-init c =
    let none = c.new-times.ensures.empty in (
      omega (arith, ap length none),
      omega arith,
      λ trace are. subst (Missed bytes_eq (min_refer bytes_eq c.args.places) trace 0 0) (sym none)
          (nothing_missed bytes_eq (min_refer bytes_eq c.args.places) trace),
    )

pub loop-now-preserved : goal.loop-now-preserved
loop-now-preserved c =
    let s = c.loop-now in
    let left = c.remove.new.self.keys in
    let kept = c.keep.new.times.keys in
    let few = ap length c.keep.ensures ∙ length-take (c.args.places - 1) left in (
      omega (arith, c.in_ok-add.ensures.few, few, c.if-places-eq0.false),
      omega (arith, s.invariant.1, c.from-misses.ensures, at_most_one (not c.remove.result)),
      λ trace are. min_turn trace are s.now-counter c.args.places (omega (arith, c.loop-now-test.true, c.end-end.ensures))
          s.misses c.from-misses.result c.next.result c.remove.result s.times.keys left c.add.new.times.keys
          c.remove.ensures.test c.from-misses.ensures c.remove.ensures.keys c.next.ensures
          (omega (arith, c.if-places-eq0.false)) kept c.keep.ensures
          (c.in_ok-add.ensures.added ∙ ap (λ e. with_time e c.next.result kept) c.end-end.ensures) (s.invariant.2 trace are),
    )

pub returns : goal.returns
returns c = λ trace are. turns_end trace are (min_refer bytes_eq c.args.places) c.loop-now.now-counter
    c.loop-now.misses c.loop-now.times.keys (omega (arith, c.loop-now-test.false, c.end-end.ensures))
    (c.loop-now.invariant.2 trace are)
