use Rattle.std.proofs.Common.{ap, refl, ◌∙◌, Some, inl, inr}
use Rattle.ordered_table.proofs.Tables.PairSlots.{same_full}
use Rattle.ordered_table.proofs.Chains.LinkWrites.{newest_leads, IsChain-fields, IsChain-linked}
use Rattle.ordered_table.proofs.linked.chain.Chain.link_newest.Goals as goal

pub write_newer-requires : goal.write_newer-requires
write_newer-requires g c = elim (newest_leads g.met.N.LinkType.laws c.requires.chained.1) [
  | inl none ↦ absurd (c.requires.some none)
  | inr full ↦ same_full _ _ c.set_links.ensures.links.pairs _ ∙ full
]

pub returns-clause-chain : goal.returns-clause-chain
returns-clause-chain g c order chain absent =
    let links = c.set_links.ensures.links in
    rw c.from_usize-link.ensures (IsChain-linked g.met.N.LinkType.laws c.args.b
    (IsChain-fields g.met.N.LinkType.laws c.args.b chain absent links) absent
    (same_full _ _ links.pairs c.args.b ∙ c.requires.full)
    (links.newer_there ∙ ap Some c.MAX.ensures) links.older_there
    (rw c.from_usize-link.ensures at c.write_newer.ensures.slots)
    record { ends = λ none. absurd (c.requires.some none); stays = λ _. refl })
