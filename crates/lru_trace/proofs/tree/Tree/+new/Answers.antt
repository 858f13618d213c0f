use Rattle.std.proofs.Common.{ℕ, arith, replicate, ◌≡◌, ◌+◌, ◌-◌, ◌/◌}
use Rattle.std.proofs.lemmas.List.{length-replicate}
use Rattle.lru_trace.proofs.Blocks.{sum-zeros, zeros_are_sums}
use Rattle.lru_trace.proofs.tree.Tree.+new.Goals as goal

pub invariant_of-result-2 : goal.invariant_of-result-2
invariant_of-result-2 t c =
    let weights : c.in_ok-weights.weights.items ≡ replicate {A = ℕ} c.args.slots 0 =
    c.in_ok-weights.ensures.items_if_clones_equal (λ y e. e) in
    rw (weights, c.in_ok-new.ensures.ok, c.in_ok-sums.ensures) (
      omega (arith, sum-zeros c.args.slots),
      (
        omega (
          arith,
          length-replicate {A = ℕ} c.args.slots 0,
          length-replicate {A = ℕ} ((c.args.slots - 1) / 16 + 1) 0,
        ),
        zeros_are_sums c.args.slots ((c.args.slots - 1) / 16 + 1) (omega arith),
      ),
    )
