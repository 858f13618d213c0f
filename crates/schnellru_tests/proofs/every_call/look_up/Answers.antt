use Rattle.std.proofs.Common.{sym, subst}
use Rattle.lru_model.specs.Runs.{calls, gets, demotes, goes_on}
use Rattle.lru_model.specs.State.{IsSized}
use Rattle.lru_model.proofs.EveryCall.{one_step}
use Rattle.schnellru_tests.proofs.every_call.look_up.Goals as goal

pub returns : goal.returns
returns g c =
    let names = g.Q.LookupKey.names c.args.key.now in let is = c.get_key_value.follows.holds-at-none in
    goes_on c.promote.new.self (calls (gets names c.promote.ensures.promoted)) c.promote.ensures.map.sized
    (goes_on c.demote.new.self (calls (demotes names c.demote.ensures.demoted)) c.demote.ensures.map.sized
    (one_step (calls (gets names is)) (subst IsSized (sym is) c.get_key_value.ensures.map.sized)))
