use Rattle.std.proofs.Common.{ap, sym, ◌∙◌, Some}
use Rattle.ordered_table.proofs.Chains.LinkReads.{oldest_shown}
use Rattle.ordered_table.proofs.linked.LinkedTable.oldest.Goals as goal

pub returns : goal.returns
returns g c =
    let some = rw (← c.self.view_is) at c.requires in
    record {
      oldest = rw (← c.self.view_is) (oldest_shown g.met.N.LinkType.laws c.self.invariant some
          ∙ ap Some (sym c.into_usize.ensures));
    }
