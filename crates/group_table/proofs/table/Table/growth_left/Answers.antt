use Rattle.group_table.proofs.TableLemmas.{IsTable-by, room_by}
use Rattle.group_table.proofs.table.Table.growth_left.Goals as goal

pub returns-clause-value : goal.returns-clause-value
returns-clause-value g c = rw (← c.self.view_is) (room_by _ _ _ c.self.invariant.0)

pub returns-clause-table : goal.returns-clause-table
returns-clause-table g c = rw (← c.self.view_is) (IsTable-by _ _ _ c.self.invariant.0)
