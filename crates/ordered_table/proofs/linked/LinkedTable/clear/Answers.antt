use Rattle.std.proofs.Common.{ap, sym, ◌∙◌, replicate}
use Rattle.group_table.specs.Bucket.{empty}
use Rattle.ordered_table.proofs.Tables.PairSlots.{length-pair_slots, Fits-pair_slots}
use Rattle.ordered_table.proofs.Chains.WholeChains.{whole_order, IsWhole-shown, IsLinked-view}
use Rattle.ordered_table.proofs.Tables.Clears.{pair_slots-cleared, IsWhole-cleared}
use Rattle.ordered_table.proofs.linked.LinkedTable.clear.Goals as goal

pub invariant_of-self : goal.invariant_of-self
invariant_of-self g c =
    rw (c.MAX-self-inside.ensures, c.MAX-self-inside-2.ensures) (IsWhole-shown g.met.N.LinkType.laws
    (IsWhole-cleared c.clear.new.self.slots _ c.clear.ensures.slots c.self.invariant.chain.reached))

pub returns-clause-slots : goal.returns-clause-slots
returns-clause-slots g c =
    rw (← c.self.view_is) (pair_slots-cleared c.clear.new.self.slots _ c.clear.ensures.slots
    ∙ ap (λ n. replicate n empty) (sym (length-pair_slots c.self.inside.chain.table.slots)))

pub returns-clause-order : goal.returns-clause-order
returns-clause-order g c =
    rw (c.MAX-self-inside.ensures) (whole_order g.met.N.LinkType.laws
    (IsWhole-cleared c.clear.new.self.slots _ c.clear.ensures.slots c.self.invariant.chain.reached))

pub returns-clause-fits : goal.returns-clause-fits
returns-clause-fits g c hash_of = Fits-pair_slots _ _ (c.clear.ensures.fits _)

pub returns-clause-linked : goal.returns-clause-linked
returns-clause-linked g c = IsLinked-view g.met.N.LinkType.laws (invariant_of-self g c) c.clear.ensures.table
