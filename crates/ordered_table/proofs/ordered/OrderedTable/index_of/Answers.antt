use Rattle.std.proofs.Common.{◌≡◌, ℕ, ◌+◌, zero, suc, slice_get, Some, ap, sym, ◌∙◌, subst, arith}
use Rattle.std.specs.Prelude.{slice_index_or}
use Rattle.std.proofs.lemmas.Option.{same_Some, slice_get_within, slice_get-get_or}
use Rattle.ordered_table.proofs.Tables.Places.{before_at, first_at, same_position}
use Rattle.ordered_table.proofs.ordered.OrderedTable.index_of.Goals as goal

pub links-preserved : goal.links-preserved
links-preserved g c = let (i, at, there) = c.links.invariant in go i at there
  where
    go : (i : ℕ) → slice_get c.args.self.now.order i ≡ Some c.links.at
        → slice_get c.args.self.now.order (i + c.links.index) ≡ Some c.args.b
        → (n : ℕ) × (slice_get c.args.self.now.order n ≡ Some c.newer_unless_first-at.result)
        × (slice_get c.args.self.now.order (n + (c.links.index + 1)) ≡ Some c.args.b)
    go zero at there =
        let first = sym at ∙ sym (first_at c.args.self.now.order) ∙ c.newest-first.ensures.newest in
        absurd (c.links-test.true (same_Some c.links.at c.newest-first.result first))
    go (suc n) at there =
        let order = c.args.self.now.order in let d = c.links.at in
        let within = slice_get_within order (suc n) d at in
        let found = slice_get-get_or order n d (omega (arith, within)) in
        let is = c.newer_unless_first-at.ensures.newer (slice_index_or order n d)
        (before_at order (suc n) d c.len.ensures.linked.distinct at ∙ found) in (
          n,
          found ∙ ap Some (sym is),
          subst (λ j. slice_get order j ≡ Some c.args.b) (omega arith) there,
        )

pub returns : goal.returns
returns g c =
    let order = c.args.self.now.order in let (i, at, there) = c.links.invariant in
    let zeroth = same_position order i 0 c.links.at c.len.ensures.linked.distinct at
    (sym (first_at order) ∙ c.newest-first.ensures.newest ∙ ap Some (sym c.links-test.false)) in
    record { index = subst (λ j. slice_get order j ≡ Some c.args.b) (omega (arith, zeroth)) there }
