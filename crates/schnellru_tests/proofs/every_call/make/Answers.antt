use Rattle.lru_model.specs.Runs.{goes_on}
use Rattle.lru_model.proofs.EveryCall.{makes_step, makes_if_made}
use Rattle.schnellru_tests.proofs.every_call.make.Goals as goal

pub returns : goal.returns
returns g c =
    let first = c.ensure_newest.ensures in let second = c.ensure_newest_fallible.ensures in
    goes_on c.ensure_newest.new.self (makes_step first.step) first.map.sized (makes_if_made second.map.sized second.step)
