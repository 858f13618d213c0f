use Rattle.std.proofs.Common.{rules}
use Rattle.lru_c.proofs.HandleMaps.{on_map}
use Rattle.lru_c.proofs.WithinBudget.{trimmed_in_budget}
use Rattle.lru_c.proofs.bytes.exports.lru_bytes_set_budget.Goals as goal

pub returns-in-Some : goal.returns-in-Some
returns-in-Some c =
    on_map _ _ c.args.lru.now.map c.put.new.self.map c.deref_mut.result.now c.set_limiter.new.self
    (search rules) (search rules) (search rules, search rules)

pub put-requires-clause-within : goal.put-requires-clause-within
put-requires-clause-within c = trimmed_in_budget c.args.budget
    c.deref_mut.result.now c.set_limiter.new.self (search rules) (search rules) (search rules)
