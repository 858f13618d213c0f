use Rattle.lru_model.specs.Runs.{calls, trims, reserves, shrinks, goes_on}
use Rattle.lru_model.proofs.EveryCall.{joined, sets_and_trims, retains_pairs, writes_all}
use Rattle.schnellru_tests.proofs.every_call.resize.Goals as goal

pub returns : goal.returns
returns g c =
    let trim = c.trim.ensures in let set = c.set_limiter.ensures in let reserve = c.try_reserve.ensures in
    let shrink = c.shrink_to_fit.ensures in let retain = c.retain.ensures in let each = c.for_each_mut.ensures in
    goes_on c.trim.new.self (calls (trims trim.step)) trim.map.sized
    (joined (sets_and_trims c.args.limiter trim.map.sized set.map.sized set.step)
    (goes_on c.try_reserve.new.self (calls (reserves 1 c.try_reserve.result reserve.step)) reserve.map.sized
    (goes_on c.shrink_to_fit.new.self (calls (shrinks c.shrink_to_fit.result shrink.step)) shrink.map.sized
    (goes_on c.retain.new.self (calls (retains_pairs retain.step)) retain.map.sized
    (writes_all g.met.K.Eq.laws retain.map each.step)))))
