use Rattle.std.proofs.Common.{Some}
use Rattle.ordered_table.proofs.Tables.PromotedOrders.{linked_promoted}
use Rattle.ordered_table.proofs.ordered.OrderedTable.promote.Goals as goal

pub returns-in-Some-clause-linked : goal.returns-in-Some-clause-linked
returns-in-Some-clause-linked g c = linked_promoted c.promote.new.self (Some c.args.b) c.promote.ensures.linked
    (rw c.promote.ensures.slots (rw (← c.self.view_is) at c.requires))

pub returns-in-None-2-clause-linked : goal.returns-in-None-2-clause-linked
returns-in-None-2-clause-linked g c = linked_promoted c.self.inside.linked (Some c.args.b) c.self.invariant.0
    (rw (← c.self.view_is) at c.requires)
