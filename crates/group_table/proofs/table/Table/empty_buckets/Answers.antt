use Rattle.std.proofs.Common.{◌≡◌, length, sym, ap, ◌∙◌, arith, Option, None}
use Rattle.std.proofs.lemmas.List.{length-replicate}
use Rattle.group_table.specs.Bytes.{empty_byte}
use Rattle.group_table.proofs.ControlLemmas.{buckets_are}
use Rattle.group_table.proofs.LayoutLemmas.{entries_within, length-laid_out}
use Rattle.group_table.proofs.TableLemmas.{IsTable-by}
use Rattle.group_table.proofs.FreshLemmas.{none_left, IsValid-fresh, entry_count-fresh, slots_of-fresh}
use Rattle.group_table.proofs.table.Table.empty_buckets.Goals as goal

pub invariant_of-self : goal.invariant_of-self
invariant_of-self g c =
    let laid_out = c.self.invariant.0.laid_out in
    let none = rw (← c.self.view_is) at c.requires in
    let n : c.buckets.result ≡ length c.self.inside.entries =
    omega (
      arith,
      ap length c.clear.ensures,
      length-replicate (length c.self.inside.control) empty_byte,
      buckets_are _ _ laid_out,
    ) in
    let long = length-replicate {A = Option g.row.T.Denot} (length c.self.inside.entries) None in
    rw (c.clear.ensures, c.full_capacity-self-inside.ensures, n, none_left _ _ laid_out none, long) (
      IsValid-fresh g.row.T.Denot _ _ laid_out.counts laid_out.fits,
      c.self.invariant.1 ∙ none ∙ sym (entry_count-fresh g.row.T.Denot _ _ (entries_within _ _ laid_out)),
    )

pub returns-clause-slots : goal.returns-clause-slots
returns-clause-slots g c =
    let laid_out = c.self.invariant.0.laid_out in
    let none = rw (← c.self.view_is) at c.requires in
    let long = length-replicate {A = Option g.row.T.Denot} (length c.self.inside.entries) None in
    rw (c.clear.ensures, ← c.self.view_is, length-laid_out _ _ laid_out, none_left _ _ laid_out none, long)
    (slots_of-fresh g.row.T.Denot _ _ (entries_within _ _ laid_out))

pub returns-clause-table : goal.returns-clause-table
returns-clause-table g c =
    let laid_out = c.self.invariant.0.laid_out in
    let none = rw (← c.self.view_is) at c.requires in
    rw (c.clear.ensures, none_left _ _ laid_out none)
    (IsTable-by _ _ _ (IsValid-fresh g.row.T.Denot _ _ laid_out.counts laid_out.fits))
