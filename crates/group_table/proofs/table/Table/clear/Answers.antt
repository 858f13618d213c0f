use Rattle.std.proofs.Common.{◌≡◌, length, sym, ap, ◌∙◌, arith}
use Rattle.std.proofs.lemmas.List.{length-replicate}
use Rattle.group_table.specs.Sizes.{full_capacity}
use Rattle.group_table.specs.Bytes.{empty_byte}
use Rattle.group_table.proofs.ControlLemmas.{buckets_are}
use Rattle.group_table.proofs.LayoutLemmas.{entries_within, length-laid_out}
use Rattle.group_table.proofs.TableLemmas.{IsTable-by}
use Rattle.group_table.proofs.FreshLemmas.{none_left, IsValid-fresh, entry_count-fresh, slots_of-fresh, Fits-fresh}
use Rattle.group_table.proofs.FreshLemmas.{all_empty}
use Rattle.group_table.proofs.table.Table.clear.Goals as goal

pub drop_entries-requires-clause-none_left : goal.drop_entries-requires-clause-none_left
drop_entries-requires-clause-none_left g c none =
    none_left _ _ c.self.invariant.0.laid_out (sym c.self.invariant.1 ∙ none)

pub invariant_of-self : goal.invariant_of-self
invariant_of-self g c =
    let laid_out = c.self.invariant.0.laid_out in
    let n : c.buckets.result ≡ length c.self.inside.entries =
    omega (
      arith,
      ap length c.clear.ensures,
      length-replicate (length c.self.inside.control) empty_byte,
      buckets_are _ _ laid_out,
    ) in
    rw (c.clear.ensures, c.drop_entries.ensures, c.full_capacity-most.ensures, n) (
      IsValid-fresh g.row.T.Denot _ _ laid_out.counts laid_out.fits,
      sym
          (entry_count-fresh g.row.T.Denot _ _ (entries_within _ _ laid_out)),
    )

pub returns-clause-slots : goal.returns-clause-slots
returns-clause-slots g c =
    let laid_out = c.self.invariant.0.laid_out in
    rw (c.clear.ensures, c.drop_entries.ensures, ← c.self.view_is, length-laid_out _ _ laid_out)
    (slots_of-fresh g.row.T.Denot _ _ (entries_within _ _ laid_out))

pub returns-clause-table : goal.returns-clause-table
returns-clause-table g c =
    let laid_out = c.self.invariant.0.laid_out in
    rw (c.clear.ensures, c.drop_entries.ensures)
    (IsTable-by _ _ _ (IsValid-fresh g.row.T.Denot _ _ laid_out.counts laid_out.fits))

pub returns-clause-fits : goal.returns-clause-fits
returns-clause-fits g c hash_of = rw (returns-clause-slots g c) (Fits-fresh g.row.T.Denot _ hash_of)

pub returns-then-self-most-clause-slots : goal.returns-then-self-most-clause-slots
returns-then-self-most-clause-slots g c =
    let valid = c.self.invariant.0 in
    rw (← c.self.view_is) (all_empty _ (omega (
      arith,
      valid.room_left,
      c.if-self-most.true ∙ c.full_capacity-most.ensures
          ∙ ap full_capacity (c.buckets.ensures ∙ buckets_are _ _ valid.laid_out),
    )))

pub returns-then-self-most-clause-table : goal.returns-then-self-most-clause-table
returns-then-self-most-clause-table g c = rw (← c.self.view_is) (IsTable-by _ _ _ c.self.invariant.0)

pub returns-then-self-most-clause-fits : goal.returns-then-self-most-clause-fits
returns-then-self-most-clause-fits g c hash_of =
    rw (returns-then-self-most-clause-slots g c) (Fits-fresh g.row.T.Denot _ hash_of)
