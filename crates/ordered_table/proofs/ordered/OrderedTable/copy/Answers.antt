use Rattle.ordered_table.specs.OrderedTable.{in_front}
use Rattle.ordered_table.proofs.Tables.PromotedOrders.{linked_promoted, promoted_kept}
use Rattle.ordered_table.proofs.ordered.OrderedTable.copy.Goals as goal

pub invariant_of-result : goal.invariant_of-result
invariant_of-result g c = (
  c.in_ok-copy.ensures.linked,
  promoted_kept c.self.inside.linked c.in_ok-copy.field-0 c.self.inside.promoted c.self.invariant.0
      c.in_ok-copy.ensures.linked c.in_ok-copy.ensures.order c.self.invariant.1,
)

pub returns-clause-pairs : goal.returns-clause-pairs
returns-clause-pairs g c =
    rw (← c.self.view_is, c.in_ok-copy.ensures.order)
    (c.in_ok-copy.ensures.pairs (in_front c.self.inside.promoted c.self.inside.linked.order))

pub returns-clause-linked : goal.returns-clause-linked
returns-clause-linked g c =
    let full = invariant_of-result g c in
    linked_promoted c.in_ok-copy.field-0 c.self.inside.promoted full.0 full.1
