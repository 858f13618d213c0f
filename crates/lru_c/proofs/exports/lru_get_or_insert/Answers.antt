use Rattle.std.proofs.Common.{rules}
use Rattle.lru_c.proofs.HandleMaps.{got_or_inserted_fits}
use Rattle.lru_c.proofs.exports.lru_get_or_insert.Goals as goal

pub put-requires-clause-fits : goal.put-requires-clause-fits
put-requires-clause-fits c = got_or_inserted_fits c.args.key c.args.value _ _ _ c.deref_mut.result.now
    c.get_or_insert-answer.new.map c.get_or_insert-answer.ensures (search rules)
