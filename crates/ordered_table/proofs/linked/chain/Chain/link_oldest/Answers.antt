use Rattle.std.proofs.Common.{ap, ◌∙◌, Some, inl, inr}
use Rattle.ordered_table.proofs.Chains.LastBuckets.{oldest_leads, IsChain-linked_last}
use Rattle.ordered_table.proofs.Chains.LinkWrites.{IsChain-fields}
use Rattle.ordered_table.proofs.Tables.PairSlots.{same_full}
use Rattle.ordered_table.proofs.linked.chain.Chain.link_oldest.Goals as goal

pub write_older-requires : goal.write_older-requires
write_older-requires g c = elim (oldest_leads g.met.N.LinkType.laws c.requires.chained.1) [
  | inl none ↦ absurd (c.requires.some none)
  | inr full ↦ same_full _ _ c.set_links.ensures.links.pairs _ ∙ full
]

pub returns-clause-chain : goal.returns-clause-chain
returns-clause-chain g c order chain absent =
    let links = c.set_links.ensures.links in
    rw c.from_usize-link.ensures (IsChain-linked_last g.met.N.LinkType.laws c.args.b
    (IsChain-fields g.met.N.LinkType.laws c.args.b chain absent links) absent
    (same_full _ _ links.pairs c.args.b ∙ c.requires.full) links.newer_there
    (links.older_there ∙ ap Some c.MAX.ensures) c.requires.some
    (rw c.from_usize-link.ensures at c.write_older.ensures.slots))
