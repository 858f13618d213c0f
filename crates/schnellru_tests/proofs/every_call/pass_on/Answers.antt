use Rattle.std.proofs.Common.{refl}
use Rattle.lru_model.specs.Runs.{calls, trims, sets_limiter, goes_on}
use Rattle.lru_model.proofs.EveryCall.{joined, one_step, sets_and_trims, retains_pairs}
use Rattle.schnellru_tests.proofs.every_call.pass_on.Goals as goal

pub returns : goal.returns
returns g c =
    let trim = c.trim_with.ensures in let set = c.set_limiter_with.ensures in let retain = c.retain_with.ensures in
    goes_on c.trim_with.new.self (calls (trims trim.step)) trim.map.sized
    (joined (sets_and_trims c.args.limiters.0 trim.map.sized set.map.sized set.step)
    (goes_on c.retain_with.new.self (calls (retains_pairs retain.step)) retain.map.sized
    (one_step (sets_limiter c.args.limiters.1 refl) retain.map.sized)))
