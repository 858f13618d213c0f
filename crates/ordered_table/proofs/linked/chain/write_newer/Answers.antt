use Rattle.ordered_table.proofs.Chains.LinkWrites.{SetsNewer-written}
use Rattle.ordered_table.proofs.linked.chain.write_newer.Goals as goal

pub returns-clause-slots : goal.returns-clause-slots
returns-clause-slots g c = SetsNewer-written _ c.into_usize.result c.get_mut.result.now c.get_mut.ensures.entry
    g.N.LinkType.number c.args.at c.args.to c.into_usize.ensures
