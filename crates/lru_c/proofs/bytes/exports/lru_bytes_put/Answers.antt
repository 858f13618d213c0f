use Rattle.std.proofs.Common.{rules}
use Rattle.lru_c.proofs.HandleMaps.{on_map}
use Rattle.lru_c.proofs.WithinBudget.{put_in_budget}
use Rattle.lru_c.proofs.bytes.exports.lru_bytes_put.Goals as goal

pub returns-in-Some-clause-puts : goal.returns-in-Some-clause-puts
returns-in-Some-clause-puts c =
    on_map _ _ c.args.lru.now.map c.put.new.self.map c.deref_mut.result.now c.put-answer.new.map
    (search rules) (search rules) c.put-answer.ensures.puts

pub put-requires-clause-within : goal.put-requires-clause-within
put-requires-clause-within c = put_in_budget c.put-answer.ensures.puts (search rules)
