use Rattle.std.proofs.Common.{◌≤◌, ◌+◌, ◌-◌, ◌*◌, [], arith, sym, subst}
use Rattle.std.proofs.Math.Nat.{mul-le-mul_left}
use Rattle.std.specs.String.{string_eq}
use Rattle.lru_theory.specs.Best.{min_misses}
use Rattle.lru_replay_tests.proofs.misses.near_best.Goals as goal

pub returns : goal.returns
returns c = λ h paid left some few served.
    let k = c.args.length in let texts = c.args.texts.now in
    let (demanded, other, demands, fewer) =
    c.loading_ahead_gains_nothing.ensures h texts [] left paid (omega arith) served in
    let best = c.min_is_best.ensures.demands h texts other demanded demands in
    let near = subst (λ n. (k + 1 - h) * n ≤ k * min_misses string_eq h texts) (sym c.in_ok-count.ensures)
    (c.lru_is_near_min.ensures.min k h [] texts some few) in
    let paying : k * min_misses string_eq h texts ≤ k * paid = mul-le-mul_left k (omega (arith, best, fewer)) in
    omega (arith, near, paying)
