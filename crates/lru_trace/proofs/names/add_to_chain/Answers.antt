use Rattle.std.proofs.Common.{length, ap, ◌∙◌}
use Rattle.lru_trace.specs.Names.{chain_of}
use Rattle.lru_trace.proofs.NamesChains.{linked_more}
use Rattle.lru_trace.proofs.names.add_to_chain.Goals as goal

pub returns : goal.returns
returns c =
    let newest = c.args.newest.now in
    linked_more c.args.texts.now c.args.number c.chain_of-chain.result newest c.args.older.now c.requires.linked
    c.requires.within c.chain_of-chain.ensures.within
    (c.chain_of-chain.ensures.is ∙ ap (chain_of (length newest)) c.get.ensures)
