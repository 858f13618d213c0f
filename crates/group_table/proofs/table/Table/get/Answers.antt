use Rattle.group_table.proofs.LayoutLemmas.{is_some_entry, entry_at-full}
use Rattle.group_table.proofs.TableLemmas.{IsTable-by}
use Rattle.group_table.proofs.table.Table.get.Goals as goal

pub get-requires : goal.get-requires
get-requires g c = is_some_entry _ _ c.self.invariant.0.laid_out c.args.b (rw (← c.self.view_is) at c.requires)

pub returns-clause-entry : goal.returns-clause-entry
returns-clause-entry g c =
    let there = rw (← c.self.view_is) at c.requires in
    rw (← c.self.view_is) (entry_at-full _ _ c.self.invariant.0.laid_out c.args.b there _ c.get.ensures)

pub returns-clause-table : goal.returns-clause-table
returns-clause-table g c = rw (← c.self.view_is) (IsTable-by _ _ _ c.self.invariant.0)
