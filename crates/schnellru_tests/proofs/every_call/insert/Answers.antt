use Rattle.lru_model.specs.Runs.{inserts, updates, goes_on}
use Rattle.lru_model.proofs.EveryCall.{keeps_run}
use Rattle.schnellru_tests.proofs.every_call.insert.Goals as goal

pub returns : goal.returns
returns g c =
    let insert = c.insert.ensures in let update = c.update.ensures in let keep = c.insert_and_keep.ensures in
    goes_on c.insert.new.self (inserts _ _ c.insert.result insert.step) insert.map.sized
    (goes_on c.update.new.self (updates _ _ c.update.result update.step) update.map.sized
    (keeps_run _ _ (λ left. left.items) c.insert_and_keep.result keep.passed keep.unchanged keep.map.sized))
