use Rattle.std.proofs.Common.{◌-◌, ◌^◌, ◌<◌, length, get_or, set, sum, arith, subst, ap, rules}
use Rattle.std.specs.Prelude.{IfSome}
use Rattle.std.proofs.lemmas.List.{get_or_read}
use Rattle.std.proofs.lemmas.List.Sums.{sum_by-set}
use Rattle.lru_trace.specs.Blocks.{IsAbove}
use Rattle.lru_trace.proofs.Blocks.{block_within, block_enough, changed_above}
use Rattle.lru_trace.proofs.tree.Tree.+subtract.Goals as goal
use Rattle.lru_trace.proofs.tree.Tree.+subtract.Goals.{in-Some, in_default}

pub subtract-requires : goal.subtract-requires
subtract-requires t c =
    let xs = c.self.inside.weights.items in
    let are = subst (λ s. IfSome s (λ sums. IsAbove xs sums.value)) c.in-Some.is c.self.invariant.1 in
    let within : c.args.slot < length xs = omega (arith, c.requires.within, ap length c.self.view_is) in
    let enough = ap (λ xs. get_or xs c.args.slot 0) c.self.view_is in
    let less = block_enough are.1 c.args.slot within in
    rw c.deref_mut.ensures.value (
      search rules,
      (block_within are.1 c.args.slot within, omega (arith, less, enough, c.requires.enough)),
    )

pub invariant_of-self : goal.invariant_of-self
invariant_of-self t c =
    let xs = c.self.inside.weights.items in
    let slot = c.args.slot in
    let now = c.index_mut.result.now - c.args.weight in
    let within : slot < length xs = omega (arith, c.requires.within, ap length c.self.view_is) in
    let read = get_or_read xs slot c.index_mut.result.now within c.index_mut.ensures.value 0 in
    let enough = ap (λ xs. get_or xs c.args.slot 0) c.self.view_is in
    let change = sum_by-set (λ x. x) xs slot now 0 within in
    let fits : sum (set xs slot now) < 2 ^ 64 = omega (arith, change, read, c.self.invariant.0) in
    elim c.match-self.branch [
      | in-Some w ↦
          let are = subst (λ s. IfSome s (λ sums. IsAbove xs sums.value)) w.in-Some.is c.self.invariant.1 in
          let less = block_enough are.1 slot within in
          let same = changed_above are slot within _ now (omega (arith, read, enough, c.requires.enough, less)) in
          rw (w.self-inside-is, w.subtract.ensures, w.deref_mut.ensures.value) (fits, same)
      | in_default w ↦ rw (w.self-inside-is, w.in_default.is) (fits, tt)
    ]
