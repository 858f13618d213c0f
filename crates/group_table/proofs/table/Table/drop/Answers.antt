use Rattle.std.proofs.Common.{ap, sym, ◌∙◌}
use Rattle.group_table.specs.Bucket.{entry_count}
use Rattle.group_table.proofs.FreshLemmas.{none_left}
use Rattle.group_table.proofs.table.Table.drop.Goals as goal

pub drop_entries-requires-clause-none_left : goal.drop_entries-requires-clause-none_left
drop_entries-requires-clause-none_left g c none =
    let same = rw (← c.self.view_is) at c.into_parts-control.ensures.slots in
    none_left _ _ c.into_parts-control.ensures.laid_out (ap entry_count same ∙ sym c.self.invariant.1 ∙ none)
