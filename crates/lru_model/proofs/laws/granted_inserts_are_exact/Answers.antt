use Rattle.lru_model.proofs.Theorems.GrantedGrowth.{insert_granted}
use Rattle.lru_model.proofs.laws.granted_inserts_are_exact.Goals as goal

pub returns : goal.returns
returns g c = λ key value old result new grants tables step.
    insert_granted g.L.Limiter.rules g.L.Insertion.offers g.I.LookupKey.names key value old new result grants tables
    step
