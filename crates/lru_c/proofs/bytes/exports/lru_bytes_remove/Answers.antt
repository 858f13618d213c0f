use Rattle.std.proofs.Common.{rules}
use Rattle.lru_c.specs.Bytes.{names_bytes}
use Rattle.lru_c.proofs.HandleMaps.{on_map}
use Rattle.lru_c.proofs.WithinBudget.{removed_in_budget}
use Rattle.lru_c.proofs.bytes.exports.lru_bytes_remove.Goals as goal

pub returns-in-Some : goal.returns-in-Some
returns-in-Some c =
    on_map _ _ c.args.lru.now.map c.put.new.self.map c.deref_mut.result.now c.remove.new.self
    (search rules) (search rules) (c.remove.result, search rules, c.remove.ensures.step)

pub put-requires-clause-within : goal.put-requires-clause-within
put-requires-clause-within c = removed_in_budget (names_bytes c.args.key.now) c.remove.result
    c.deref_mut.result.now c.remove.new.self c.remove.ensures.step (search rules)
