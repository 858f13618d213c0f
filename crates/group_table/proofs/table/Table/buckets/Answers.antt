use Rattle.std.proofs.Common.{arith}
use Rattle.group_table.proofs.LayoutLemmas.{length-laid_out}
use Rattle.group_table.proofs.TableLemmas.{IsTable-by}
use Rattle.group_table.proofs.table.Table.buckets.Goals as goal

pub returns-clause-value : goal.returns-clause-value
returns-clause-value g c = rw (← c.self.view_is) (omega (arith, length-laid_out _ _ c.self.invariant.0.laid_out))

pub returns-clause-table : goal.returns-clause-table
returns-clause-table g c = rw (← c.self.view_is) (IsTable-by _ _ _ c.self.invariant.0)
