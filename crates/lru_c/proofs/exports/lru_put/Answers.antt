use Rattle.std.proofs.Common.{rules}
use Rattle.lru_c.proofs.HandleMaps.{on_map, put_fits}
use Rattle.lru_c.proofs.exports.lru_put.Goals as goal

pub returns-in-Some : goal.returns-in-Some
returns-in-Some c =
    on_map _ _ c.args.lru.now.map c.put.new.self.map c.deref_mut.result.now c.insert.new.self
    (search rules) (search rules) (c.insert.result, search rules, c.insert.ensures.step)

pub put-requires-clause-fits : goal.put-requires-clause-fits
put-requires-clause-fits c = put_fits c.args.key c.args.value c.insert.result c.deref_mut.result.now
    c.insert.new.self c.insert.ensures.step (search rules)
