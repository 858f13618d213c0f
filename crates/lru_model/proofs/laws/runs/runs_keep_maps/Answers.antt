use Rattle.lru_model.proofs.Theorems.Runs.{run_is_map}
use Rattle.lru_model.proofs.laws.runs.runs_keep_maps.Goals as goal

pub returns : goal.returns
returns g c = record {
  map = λ old new run ok. run_is_map g.met.K.Eq.laws g.met.I.LookupKey.laws g.met.L.Insertion.laws new old run ok;
}
