use Rattle.std.proofs.Common.{sym, ◌∙◌}
use Rattle.ordered_table.proofs.Tables.PromotedOrders.{linked_promoted}
use Rattle.ordered_table.proofs.ordered.OrderedTable.len.Goals as goal

pub returns : goal.returns
returns g c =
    let shown = linked_promoted c.self.inside.linked c.self.inside.promoted c.self.invariant.0 c.self.invariant.1 in
    rw (← c.self.view_is) (record { len = c.len.ensures.len ∙ sym c.self.invariant.0.count ∙ shown.count; linked = shown })
