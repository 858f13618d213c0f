use Rattle.std.proofs.Common.{◌∙◌, ap, Some}
use Rattle.ordered_table.proofs.Chains.LinkWrites.{newest_leads, IsChain-linked}
use Rattle.ordered_table.proofs.linked.chain.Chain.link_placed.Goals as goal

pub set_newer-requires-clause-there : goal.set_newer-requires-clause-there
set_newer-requires-clause-there g c =
    rw c.requires.first (newest_leads g.met.N.LinkType.laws c.requires.chained.1)

pub returns-clause-chain : goal.returns-clause-chain
returns-clause-chain g c order chain absent =
    rw c.from_usize-link.ensures (IsChain-linked g.met.N.LinkType.laws c.args.b chain absent c.requires.full
    c.requires.newer (c.requires.older ∙ ap Some c.requires.first)
    (rw (c.from_usize-link.ensures, c.requires.first) at c.set_newer.ensures.slots)
    (rw (c.from_usize-link.ensures, c.requires.first) at c.set_newer.ensures.oldest))
