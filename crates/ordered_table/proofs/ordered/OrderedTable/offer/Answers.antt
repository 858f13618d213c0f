use Rattle.std.proofs.Common.{ap}
use Rattle.ordered_table.specs.OrderedTable.{OrderedTable, in_front}
use Rattle.ordered_table.proofs.Tables.PromotedOrders.{linked_promoted, promoted_kept}
use Rattle.ordered_table.proofs.ordered.OrderedTable.offer.Goals as goal

pub invariant_of-self : goal.invariant_of-self
invariant_of-self g c = (
  c.offer.ensures.linked,
  promoted_kept c.self.inside.linked c.offer.new.self c.self.inside.promoted c.self.invariant.0 c.offer.ensures.linked
      (ap (λ t. t.order) c.offer.ensures.offered.table) c.self.invariant.1,
)

pub returns-clause-offered : goal.returns-clause-offered
returns-clause-offered g c =
    let done = c.offer.ensures.offered in
    rw (← c.len-length.ensures.len, ← c.self.view_is)
    (record {
      pair = done.pair;
      there = done.there;
      after = done.after;
      offered = done.offered;
      table = ap (λ (t : OrderedTable g.row.K.Denot g.row.V.Denot).
          record t { order = in_front c.self.inside.promoted t.order }) done.table;
    })

pub returns-clause-linked : goal.returns-clause-linked
returns-clause-linked g c =
    linked_promoted c.offer.new.self c.self.inside.promoted c.offer.ensures.linked
    (promoted_kept c.self.inside.linked c.offer.new.self c.self.inside.promoted c.self.invariant.0
    c.offer.ensures.linked (ap (λ t. t.order) c.offer.ensures.offered.table) c.self.invariant.1)

pub returns-clause-fits : goal.returns-clause-fits
returns-clause-fits g c = rw (← c.len-length.ensures.len, ← c.self.view_is) c.offer.ensures.fits
