use Rattle.ordered_table.proofs.Tables.PromotedOrders.{linked_promoted}
use Rattle.ordered_table.proofs.ordered.OrderedTable.growth_left.Goals as goal

pub returns-clause-linked : goal.returns-clause-linked
returns-clause-linked g c =
    rw (← c.self.view_is) (linked_promoted c.self.inside.linked c.self.inside.promoted c.self.invariant.0 c.self.invariant.1)
