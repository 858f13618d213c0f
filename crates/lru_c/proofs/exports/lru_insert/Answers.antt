use Rattle.std.proofs.Common.{rules}
use Rattle.lru_c.proofs.HandleMaps.{inserted_fits}
use Rattle.lru_c.proofs.exports.lru_insert.Goals as goal

pub put-requires-clause-fits : goal.put-requires-clause-fits
put-requires-clause-fits c = inserted_fits c.args.key c.args.value _ _ _ c.deref_mut.result.now
    c.insert-answer.new.map c.insert-answer.ensures (search rules)
