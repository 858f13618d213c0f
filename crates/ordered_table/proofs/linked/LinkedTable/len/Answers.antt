use Rattle.ordered_table.proofs.Chains.WholeChains.{IsLinked-view}
use Rattle.ordered_table.proofs.linked.LinkedTable.len.Goals as goal

pub returns-clause-linked : goal.returns-clause-linked
returns-clause-linked g c = rw (← c.self.view_is)
    (IsLinked-view g.met.N.LinkType.laws c.self.invariant c.len.ensures.table)
