use Rattle.std.proofs.Common.{ap, sym, ◌∙◌, Some}
use Rattle.ordered_table.proofs.Chains.LinkReads.{first_shown}
use Rattle.ordered_table.proofs.linked.LinkedTable.newest.Goals as goal

pub returns : goal.returns
returns g c =
    let some = rw (← c.self.view_is) at c.requires in
    record {
      newest = rw (← c.self.view_is) (first_shown g.met.N.LinkType.laws c.self.invariant some
          ∙ ap Some (sym c.into_usize.ensures));
    }
