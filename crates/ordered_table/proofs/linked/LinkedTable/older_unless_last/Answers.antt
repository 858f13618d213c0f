use Rattle.std.proofs.Common.{◌∙◌}
use Rattle.ordered_table.proofs.Chains.LinkReads.{older_number}
use Rattle.ordered_table.proofs.linked.LinkedTable.older_unless_last.Goals as goal

pub returns : goal.returns
returns g c =
    let full = rw (← c.self.view_is) at c.requires in
    record {
      older = rw (← c.self.view_is) (λ b is. c.into_usize.ensures ∙ older_number g.met.N.LinkType.laws c.self.invariant c.args.b
          full c.get.result.now c.get.ensures.entry b is);
    }
