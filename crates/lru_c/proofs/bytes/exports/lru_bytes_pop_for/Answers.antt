use Rattle.std.proofs.Common.{rules}
use Rattle.lru_c.proofs.HandleMaps.{on_map}
use Rattle.lru_c.proofs.RoomyPuts.{pop_for_in_budget, found_if_must}
use Rattle.lru_c.proofs.bytes.exports.lru_bytes_pop_for.Goals as goal

pub returns-in-Some-clause-pops : goal.returns-in-Some-clause-pops
returns-in-Some-clause-pops c =
    on_map _ _ c.args.lru.now.map c.put.new.self.map c.deref_mut.result.now c.pop_for-answer.new.map
    (search rules) (search rules) c.pop_for-answer.ensures

pub returns-in-Some-clause-found : goal.returns-in-Some-clause-found
returns-in-Some-clause-found c = search (rules, found_if_must c.pop_for-answer.ensures)

pub put-requires-clause-within : goal.put-requires-clause-within
put-requires-clause-within c = pop_for_in_budget c.pop_for-answer.ensures (search rules)
