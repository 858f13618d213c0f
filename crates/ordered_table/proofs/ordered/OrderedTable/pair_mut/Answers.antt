use Rattle.std.proofs.Common.{refl}
use Rattle.ordered_table.specs.OrderedTable.{with_pair}
use Rattle.ordered_table.proofs.Tables.PromotedOrders.{linked_promoted, promoted_kept}
use Rattle.ordered_table.proofs.ordered.OrderedTable.pair_mut.Goals as goal

pub returns : goal.returns
returns g c = (
  (refl, λ w. rw (← c.self.view_is) refl),
  record {
    writes_back = tt;
    pair = rw (← c.self.view_is) c.pair_mut.ensures.pair;
    fits = rw (← c.self.view_is) c.pair_mut.ensures.fits;
    linked = λ last.
        let after = with_pair c.self.inside.linked c.args.b (c.pair_mut.result.0.now, last) in
        rw (← c.self.view_is)
        (linked_promoted after c.self.inside.promoted (c.pair_mut.ensures.linked last)
        (promoted_kept c.self.inside.linked after c.self.inside.promoted
        c.self.invariant.0 (c.pair_mut.ensures.linked last) refl c.self.invariant.1));
  },
)
