use Rattle.lru_model.proofs.Theorems.AddedPairs.{any_adds}
use Rattle.lru_model.proofs.laws.calls.calls_add_one_pair.Goals as goal

pub returns : goal.returns
returns g c = λ old new step. any_adds g.met.I.LookupKey.laws g.met.L.Insertion.laws old new step
