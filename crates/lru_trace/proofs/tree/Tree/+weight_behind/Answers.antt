use Rattle.std.proofs.Common.{◌≡◌, ℕ, ◌+◌, ◌-◌, ◌*◌, ◌/◌, ◌<◌, length, sum, drop, min, ap, ◌∙◌, arith, subst}
use Rattle.std.specs.Prelude.{IfSome}
use Rattle.std.proofs.lemmas.List.Sums.{sum_by-take-le}
use Rattle.lru_trace.specs.Blocks.{IsAbove}
use Rattle.lru_trace.proofs.Blocks.{near_and_far, fewer_from}
use Rattle.lru_trace.proofs.tree.Tree.+weight_behind.Goals.{After-weight_behind}
use Rattle.lru_trace.proofs.tree.Tree.+weight_behind.Goals as goal

pub sum_of-requires : goal.sum_of-requires
sum_of-requires t c =
    let xs = c.self.inside.weights.items in
    rw c.deref.ensures.value (omega (
      arith,
      c.self.invariant.0,
      fewer_from xs 0 (c.args.slot + 1) (omega arith),
      sum_by-take-le (λ x. x) (drop (c.args.slot + 1) xs) (length xs - (c.args.slot + 1)),
    ))

pub sum_of-requires-2 : goal.sum_of-requires-2
sum_of-requires-2 t c =
    let xs = c.self.inside.weights.items in
    rw c.deref-2.ensures.value (omega (
      arith,
      c.self.invariant.0,
      fewer_from xs 0 (c.args.slot + 1) (omega arith),
      sum_by-take-le (λ x. x) (drop (c.args.slot + 1) xs) (c.min-end.result - (c.args.slot + 1)),
    ))

both : (t : ℕ) (c : After-weight_behind t)
    → c.sum_of-2.result + c.weight_behind.result ≡ sum (drop (c.args.slot + 1) c.self.inside.weights.items)
both t c =
    let xs = c.self.inside.weights.items in
    let are = subst (λ s. IfSome s (λ sums. IsAbove xs sums.value)) c.in-Some.is c.self.invariant.1 in
    let within : c.args.slot < length xs = omega (arith, c.requires, ap length c.self.view_is) in
    let len : c.len.result ≡ length xs = omega (arith, c.len.ensures, c.self.inside.weights.ok.0) in
    let end = c.min-end.ensures ∙ ap (min (16 * (c.args.slot / 16 + 1))) len in
    rw (c.sum_of-2.ensures, c.deref-2.ensures.value, c.weight_behind.ensures, c.deref-3.ensures)
    (near_and_far are.1 c.args.slot within c.min-end.result end)

pub overflow_add-result : goal.overflow_add-result
overflow_add-result t c =
    omega (
      arith,
      both t c,
      c.self.invariant.0,
      fewer_from c.self.inside.weights.items 0 (c.args.slot + 1) (omega arith),
    )

pub returns : goal.returns
returns t c = both t c ∙ ap (λ xs. sum (drop (c.args.slot + 1) xs)) c.self.view_is
