use Rattle.std.proofs.Common.{refl, inl, lit<, lit≤}
use Rattle.group_table.proofs.SizeLemmas.{full_capacity-small}
use Rattle.group_table.proofs.TableLemmas.{IsTable-by}
use Rattle.group_table.proofs.FreshLemmas.{IsValid-fresh}
use Rattle.group_table.proofs.table.Table.new.Goals as goal

pub invariant_of-result : goal.invariant_of-result
invariant_of-result g c =
    rw (c.new.ensures, c.new-2.ensures)
    (rw (full_capacity-small 0 (lit≤ tt)) at (IsValid-fresh g.row.T.Denot 0 0 (inl (refl, refl)) (lit< tt)), refl)

pub returns-clause-table : goal.returns-clause-table
returns-clause-table g c =
    rw (c.new.ensures, c.new-2.ensures)
    (IsTable-by _ _ _ (IsValid-fresh g.row.T.Denot 0 0 (inl (refl, refl)) (lit< tt)))
