use Rattle.lru_model.specs.Runs.{inserts, updates, goes_on}
use Rattle.lru_model.proofs.EveryCall.{one_step}
use Rattle.schnellru_tests.proofs.every_call.insert_with.Goals as goal

pub returns-then-is_none : goal.returns-then-is_none
returns-then-is_none g c =
    let first = c.insert_with.ensures in let full = c.insert_full.ensures in let update = c.update_with.ensures in
    let absent = c.insert_absent.ensures in
    goes_on c.insert_with.new.self (inserts _ _ c.insert_with.result first.step) first.map.sized
    (goes_on c.insert_full.new.self (inserts _ _ _ full.step) full.map.sized
    (goes_on c.update_with.new.self (updates _ _ c.update_with.result update.step) update.map.sized
    (one_step (inserts _ _ c.insert_absent.result absent.step) absent.map.sized)))

pub returns-else-is_none : goal.returns-else-is_none
returns-else-is_none g c =
    let first = c.insert_with.ensures in let full = c.insert_full.ensures in let update = c.update_with.ensures in
    goes_on c.insert_with.new.self (inserts _ _ c.insert_with.result first.step) first.map.sized
    (goes_on c.insert_full.new.self (inserts _ _ _ full.step) full.map.sized
    (one_step (updates _ _ c.update_with.result update.step) update.map.sized))
