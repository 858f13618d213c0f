use Rattle.group_table.proofs.TableLemmas.{IsTable-by}
use Rattle.group_table.proofs.table.Table.insertion_count.Goals as goal

pub returns-clause-table : goal.returns-clause-table
returns-clause-table g c = rw (← c.self.view_is) (IsTable-by _ _ _ c.self.invariant.0)
