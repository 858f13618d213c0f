use Rattle.lru_model.specs.Runs.{calls, removes, pops_oldest, pops_newest, clears, goes_on}
use Rattle.lru_model.proofs.EveryCall.{one_step, removes_entry, pops_if, any_steps, joined}
use Rattle.schnellru_tests.proofs.every_call.remove.Goals as goal

pub returns : goal.returns
returns g c =
    let names = g.Q.LookupKey.names c.args.key.now in
    let by_key = c.remove.ensures in let entry = c.remove_entry.ensures in let oldest = c.pop_oldest.ensures in
    let newest = c.pop_newest.ensures in let accepted = c.pop_oldest_if.ensures in let clear = c.clear.ensures in
    goes_on c.remove.new.self (calls (removes names c.remove.result by_key.step)) by_key.map.sized
    (goes_on c.remove_entry.new.self (calls (removes_entry names c.remove_entry.result entry.step)) entry.map.sized
    (goes_on c.pop_oldest.new.self (calls (pops_oldest c.pop_oldest.result oldest.step)) oldest.map.sized
    (goes_on c.pop_newest.new.self (calls (pops_newest c.pop_newest.result newest.step)) newest.map.sized
    (joined (any_steps (pops_if accepted.map.sized accepted.step))
    (one_step (calls (clears clear.step)) clear.map.sized)))))
