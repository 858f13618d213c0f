use Rattle.std.proofs.Common.{rules}
use Rattle.lru_c.proofs.HandleMaps.{on_map}
use Rattle.lru_c.proofs.WithinBudget.{pop_in_budget}
use Rattle.lru_c.proofs.bytes.exports.lru_bytes_pop_oldest.Goals as goal

pub returns-in-Some : goal.returns-in-Some
returns-in-Some c =
    on_map _ _ c.args.lru.now.map c.put.new.self.map c.deref_mut.result.now c.pop_oldest-answer.new.map
    (search rules) (search rules) c.pop_oldest-answer.ensures

pub put-requires-clause-within : goal.put-requires-clause-within
put-requires-clause-within c = pop_in_budget c.pop_oldest-answer.ensures (search rules)
