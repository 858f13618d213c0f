use Rattle.std.proofs.Common.{arith, ◌∙◌, ap, length, subst, sym}
use Rattle.std.proofs.lemmas.List.{length-take}
use Rattle.std.specs.Prelude.{not}
use Rattle.std.specs.Str.{bytes_eq}
use Rattle.lru_theory.specs.Best.{bypass_refer}
use Rattle.lru_trace.specs.Times.{with_time}
use Rattle.lru_trace.proofs.Times.{Missed, at_most_one, nothing_missed}
use Rattle.lru_trace.proofs.Turns.{bypass_turn, turns_end}
use Rattle.lru_trace.proofs.best.Best.bypass_misses.Goals as goal

pub loop-now-init : goal.loop-now-init
loop-now-init c =
    let none = c.new-times.ensures.empty in (
      omega (arith, ap length none),
      omega arith,
      λ trace are. subst (Missed bytes_eq (bypass_refer bytes_eq c.args.places) trace 0 0) (sym none)
          (nothing_missed bytes_eq (bypass_refer bytes_eq c.args.places) trace),
    )

pub loop-now-preserved : goal.loop-now-preserved
loop-now-preserved c =
    let s = c.loop-now in
    let left = c.remove.new.self.keys in
    let with_it = c.add.new.times.keys in
    let few = ap length c.keep.ensures ∙ length-take c.args.places with_it in (
      omega (arith, few),
      omega (arith, s.invariant.1, c.from-misses.ensures, at_most_one (not c.remove.result)),
      λ trace are. bypass_turn trace are s.now-counter c.args.places
          (omega (arith, c.loop-now-test.true, c.end-end.ensures)) s.misses c.from-misses.result c.next.result
          c.remove.result s.times.keys left c.keep.new.times.keys c.remove.ensures.test c.from-misses.ensures
          c.remove.ensures.keys c.next.ensures with_it
          (c.in_ok-add.ensures.added ∙ ap (λ e. with_time e c.next.result left) c.end-end.ensures) c.keep.ensures
          (s.invariant.2 trace are),
    )

pub returns : goal.returns
returns c = λ trace are. turns_end trace are (bypass_refer bytes_eq c.args.places) c.loop-now.now-counter
    c.loop-now.misses c.loop-now.times.keys (omega (arith, c.loop-now-test.false, c.end-end.ensures))
    (c.loop-now.invariant.2 trace are)
