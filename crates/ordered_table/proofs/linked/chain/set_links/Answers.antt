use Rattle.ordered_table.proofs.Chains.LinkWrites.{SetsLinks-written}
use Rattle.ordered_table.proofs.linked.chain.set_links.Goals as goal

pub returns-clause-links : goal.returns-clause-links
returns-clause-links g c = SetsLinks-written _ c.args.b c.get_mut-entry.result.now c.get_mut-entry.ensures.entry
    c.args.newer c.args.older
