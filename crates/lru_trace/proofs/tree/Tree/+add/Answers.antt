use Rattle.std.proofs.Common.{◌+◌, ◌^◌, ◌<◌, length, set, sum, arith, subst, ap, rules}
use Rattle.std.specs.Prelude.{IfSome}
use Rattle.std.proofs.lemmas.List.{get_or_read}
use Rattle.std.proofs.lemmas.List.Sums.{sum_by-set}
use Rattle.lru_trace.specs.Blocks.{IsAbove}
use Rattle.lru_trace.proofs.Blocks.{block_within, changed_above}
use Rattle.lru_trace.proofs.tree.Tree.+add.Goals as goal
use Rattle.lru_trace.proofs.tree.Tree.+add.Goals.{in-Some, in_default}

pub add-requires : goal.add-requires
add-requires t c =
    let xs = c.self.inside.weights.items in
    let are = subst (λ s. IfSome s (λ sums. IsAbove xs sums.value)) c.in-Some.is c.self.invariant.1 in
    let within : c.args.slot < length xs = omega (arith, c.requires.within, ap length c.self.view_is) in
    rw c.deref_mut.ensures.value (
      search rules,
      (block_within are.1 c.args.slot within, omega (arith, are.1.from 0, c.requires.fits, ap sum c.self.view_is)),
    )

pub invariant_of-self : goal.invariant_of-self
invariant_of-self t c =
    let xs = c.self.inside.weights.items in
    let slot = c.args.slot in
    let now = c.index_mut.result.now + c.args.weight in
    let within : slot < length xs = omega (arith, c.requires.within, ap length c.self.view_is) in
    let read = get_or_read xs slot c.index_mut.result.now within c.index_mut.ensures.value 0 in
    let change = sum_by-set (λ x. x) xs slot now 0 within in
    let fits : sum (set xs slot now) < 2 ^ 64 = omega (arith, change, read, c.requires.fits, ap sum c.self.view_is) in
    elim c.match-self.branch [
      | in-Some w ↦
          let are = subst (λ s. IfSome s (λ sums. IsAbove xs sums.value)) w.in-Some.is c.self.invariant.1 in
          let same = changed_above are slot within _ now (omega (arith, read)) in
          rw (w.self-inside-is, w.add.ensures, w.deref_mut.ensures.value) (fits, same)
      | in_default w ↦ rw (w.self-inside-is, w.in_default.is) (fits, tt)
    ]
