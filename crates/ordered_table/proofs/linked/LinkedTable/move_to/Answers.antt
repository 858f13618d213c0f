use Rattle.std.proofs.Common.{ap, ◌∙◌, ◌≡◌, sym, subst}
use Rattle.lru_limits.specs.Hashing.{hash_by}
use Rattle.ordered_table.specs.OrderedTable.{entries_in, KeysFit}
use Rattle.ordered_table.specs.Chain.{pair_slots}
use Rattle.ordered_table.proofs.Tables.PairSlots.{bucket_states-pair_slots, same_states}
use Rattle.ordered_table.proofs.Chains.WholeChains.{whole_order, IsWhole-shown, IsLinked-view}
use Rattle.ordered_table.proofs.Tables.Relocations.{IsWhole-moved, pairs-moved, KeysFit-moved}
use Rattle.ordered_table.proofs.linked.LinkedTable.move_to.Goals as goal

pub returns-in_err-links-clause-linked : goal.returns-in_err-links-clause-linked
returns-in_err-links-clause-linked g c =
    rw c.in_err-links.ensures.unchanged (IsLinked-view g.met.N.LinkType.laws c.self.invariant
    (rw c.in_err-links.ensures.unchanged at c.renumber_entries.ensures.table))

pub rewrite-requires-clause-moved : goal.rewrite-requires-clause-moved
rewrite-requires-clause-moved g c =
    (_, _, c.self.invariant, rw c.as_slice.ensures.value c.in_ok-links.ensures.renumbered)

pub invariant_of-self-2 : goal.invariant_of-self-2
invariant_of-self-2 g c =
    let renumbers = rw (← c.as_slice.ensures.value) at c.in_ok-links.ensures.renumbered in
    let chain = c.rewrite.ensures.chain _ _ c.self.invariant renumbers in
    IsWhole-shown g.met.N.LinkType.laws
    (IsWhole-moved renumbers c.rewrite.new.self.table.slots c.rewrite.ensures.pairs c.self.invariant
    c.in_ok-links.ensures.entries chain)

pub returns-clause-pairs : goal.returns-clause-pairs
returns-clause-pairs g c =
    let renumbers = rw (← c.as_slice.ensures.value) at c.in_ok-links.ensures.renumbered in
    let chain = c.rewrite.ensures.chain _ _ c.self.invariant renumbers in
    let order = whole_order g.met.N.LinkType.laws
    (IsWhole-moved renumbers c.rewrite.new.self.table.slots c.rewrite.ensures.pairs c.self.invariant
    c.in_ok-links.ensures.entries chain) in
    rw (← c.self.view_is)
    (ap (entries_in (pair_slots c.rewrite.new.self.table.slots)) order
    ∙ pairs-moved renumbers c.rewrite.new.self.table.slots c.rewrite.ensures.pairs c.self.invariant)

pub returns-clause-growth_left : goal.returns-clause-growth_left
returns-clause-growth_left g c =
    let states = same_states c.renumber_entries.new.table.slots c.rewrite.new.self.table.slots c.rewrite.ensures.pairs in
    rw (← c.self.view_is, bucket_states-pair_slots c.rewrite.new.self.table.slots, states, ← c.self.invariant.count)
    c.in_ok-links.ensures.growth_left

pub returns-clause-fits : goal.returns-clause-fits
returns-clause-fits g c =
    let slots = c.rewrite.new.self.table.slots in let hasher = c.args.hasher.now in
    let by_hash = hash_by g.K.Hash.hash_input g.S.BuildHasher g.S.Hasher.Hasher hasher in
    let same : by_hash ≡ g.S.KeyHasher.hash_of hasher = λ i k. sym (g.met.S.KeyHasher.by_builder hasher k) i in
    subst (λ hash_of. KeysFit hash_of (pair_slots slots)) same
    (KeysFit-moved c.in_ok-links.ensures.renumbered slots c.rewrite.ensures.pairs by_hash c.in_ok-links.ensures.hashes)

pub returns-clause-linked : goal.returns-clause-linked
returns-clause-linked g c =
    let states = same_states c.renumber_entries.new.table.slots c.rewrite.new.self.table.slots c.rewrite.ensures.pairs in
    IsLinked-view g.met.N.LinkType.laws (invariant_of-self-2 g c) (rw states c.renumber_entries.ensures.table)
