use Rattle.lru_model.specs.Runs.{calls, inserts, goes_on}
use Rattle.lru_model.proofs.EveryCall.{run_without_insert}
use Rattle.schnellru_tests.proofs.every_call.insert_and_look_up.Goals as goal

pub returns : goal.returns
returns g c = goes_on c.insert.new.self (calls (inserts _ _ c.insert.result c.insert.ensures.step))
    c.insert.ensures.map.sized (run_without_insert _ _ _ _ c.look_up.ensures)
