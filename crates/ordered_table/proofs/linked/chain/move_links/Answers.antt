use Rattle.ordered_table.proofs.Chains.MovedChain.{MovesLinks-written}
use Rattle.ordered_table.proofs.linked.chain.move_links.Goals as goal

pub returns-clause-links : goal.returns-clause-links
returns-clause-links g c =
    MovesLinks-written g.N.LinkType.number g.N.LinkType.MAX c.args.links.now _ c.args.b c.get_mut-entry.result.now
    c.get_mut-entry.ensures.entry
    c.moved_link-entry.result c.moved_link-entry-2.result c.moved_link-entry.ensures c.moved_link-entry-2.ensures
