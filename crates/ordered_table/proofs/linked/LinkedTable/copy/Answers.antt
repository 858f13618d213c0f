use Rattle.std.proofs.Common.{rules, sym, ◌∙◌, subst}
use Rattle.ordered_table.specs.Chain.{IsWhole}
use Rattle.ordered_table.proofs.Tables.PairSlots.{bucket_states-pair_slots}
use Rattle.ordered_table.proofs.Tables.Copies.{order_same, whole_same, pairs_same, keys_fit}
use Rattle.ordered_table.proofs.Chains.WholeChains.{IsLinked-view}
use Rattle.ordered_table.proofs.linked.LinkedTable.copy.Goals as goal

pub invariant_of-result : goal.invariant_of-result
invariant_of-result g c =
    let old = c.self.inside.chain.table.slots in let new = c.in_ok-table.table.slots in let done =
    c.in_ok-table.ensures in
    let same = order_same g.K.Clone.is_clone g.V.Clone.is_clone _ _
    (λ x made r. search rules) old new done.copies g.N.LinkType.number done.states c.self.inside.chain.newest in
    subst (λ o. IsWhole g.N.LinkType.number g.N.LinkType.link g.N.LinkType.MAX new c.self.inside.chain.newest
    c.self.inside.chain.oldest o) (sym same)
    (whole_same g.K.Clone.is_clone g.V.Clone.is_clone _ _
    (λ x made r. search rules) old new done.copies g.N.LinkType.number
    g.N.LinkType.link g.N.LinkType.MAX c.self.inside.chain.newest c.self.inside.chain.oldest done.states _
    c.self.invariant)

pub returns-clause-order : goal.returns-clause-order
returns-clause-order g c =
    let old = c.self.inside.chain.table.slots in let new = c.in_ok-table.table.slots in let done =
    c.in_ok-table.ensures in
    rw (← c.self.view_is)
    (order_same g.K.Clone.is_clone g.V.Clone.is_clone _ _
    (λ x made r. search rules) old new done.copies g.N.LinkType.number done.states c.self.inside.chain.newest)

pub returns-clause-pairs : goal.returns-clause-pairs
returns-clause-pairs g c =
    let old = c.self.inside.chain.table.slots in let new = c.in_ok-table.table.slots in let done =
    c.in_ok-table.ensures in
    rw (← c.self.view_is)
    (pairs_same g.K.Clone.is_clone g.V.Clone.is_clone _ _ (λ x made r. search rules) old new done.copies)

pub returns-clause-states : goal.returns-clause-states
returns-clause-states g c =
    rw (← c.self.view_is) (bucket_states-pair_slots c.in_ok-table.table.slots ∙ c.in_ok-table.ensures.states
    ∙ sym (bucket_states-pair_slots c.self.inside.chain.table.slots))

pub returns-clause-fits : goal.returns-clause-fits
returns-clause-fits g c = λ hash_of other alike fits.
    let old = c.self.inside.chain.table.slots in let new = c.in_ok-table.table.slots in let done =
    c.in_ok-table.ensures in
    keys_fit g.K.Clone.is_clone g.V.Clone.is_clone _ _
    (λ x made r. search rules) old new done.copies hash_of other alike done.fits (rw (← c.self.view_is) at fits)

pub returns-clause-linked : goal.returns-clause-linked
returns-clause-linked g c = IsLinked-view g.met.N.LinkType.laws (invariant_of-result g c) c.in_ok-table.ensures.table
