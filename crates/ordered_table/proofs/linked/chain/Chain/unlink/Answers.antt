use Rattle.ordered_table.proofs.Chains.LinkWrites.{IsGap-full}
use Rattle.ordered_table.proofs.linked.chain.Chain.unlink.Goals as goal

pub close_gap-requires-clause-gap : goal.close_gap-requires-clause-gap
close_gap-requires-clause-gap g c = (
  _,
  c.args.b,
  IsGap-full g.met.N.LinkType.laws c.requires.1 c.args.b c.requires.2 _ c.get-entry.ensures.entry,
)

pub returns-clause-chain : goal.returns-clause-chain
returns-clause-chain g c order chain there = c.close_gap.ensures.chain order c.args.b
    (IsGap-full g.met.N.LinkType.laws chain c.args.b there _ c.get-entry.ensures.entry)
