use Rattle.std.proofs.Common.{ap, sym, ◌∙◌}
use Rattle.group_table.specs.Bucket.{growth_left}
use Rattle.ordered_table.proofs.Tables.PairSlots.{bucket_states-pair_slots}
use Rattle.ordered_table.proofs.Chains.WholeChains.{IsLinked-view}
use Rattle.ordered_table.proofs.linked.LinkedTable.growth_left.Goals as goal

pub returns-clause-growth_left : goal.returns-clause-growth_left
returns-clause-growth_left g c = rw (← c.self.view_is)
    (c.growth_left.ensures.value ∙ ap growth_left (sym (bucket_states-pair_slots c.self.inside.chain.table.slots)))

pub returns-clause-linked : goal.returns-clause-linked
returns-clause-linked g c = rw (← c.self.view_is)
    (IsLinked-view g.met.N.LinkType.laws c.self.invariant c.growth_left.ensures.table)
