use Rattle.lru_model.proofs.Theorems.Runs.{any_distinct, any_is_map}
use Rattle.lru_model.proofs.laws.calls.calls_keep_maps.Goals as goal

pub returns-clause-keys : goal.returns-clause-keys
returns-clause-keys g c = λ old new step.
    any_distinct g.met.K.Eq.laws g.met.I.LookupKey.laws g.met.L.Insertion.laws old new step

pub returns-clause-map : goal.returns-clause-map
returns-clause-map g c = λ old new step ok sized.
    any_is_map g.met.K.Eq.laws g.met.I.LookupKey.laws g.met.L.Insertion.laws old new step ok sized
