use Rattle.lru_model.proofs.States.RemovedPairs.{none_removed}
use Rattle.schnellru.proofs.map.LruMap.remove_entry.Goals as goal

pub returns-in_err-b-clause-step : goal.returns-in_err-b-clause-step
returns-in_err-b-clause-step g c = rw c.from_residual.ensures
    (none_removed g.L.Limiter.rules (g.Q.LookupKey.names c.args.key.now) _ c.in_err-b.ensures.none)

pub returns-clause-step : goal.returns-clause-step
returns-clause-step g c = c.take_at.ensures.step (g.Q.LookupKey.names c.args.key.now)
    (g.met.Q.LookupKey.laws.one c.args.key.now) c.in_ok-b.ensures.found
