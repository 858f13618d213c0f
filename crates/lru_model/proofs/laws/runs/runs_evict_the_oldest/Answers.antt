use Rattle.lru_model.proofs.Theorems.OtherPairs.{run_keeps_newest}
use Rattle.lru_model.proofs.Theorems.RunEvictions.{run_evicts}
use Rattle.lru_model.proofs.laws.runs.runs_evict_the_oldest.Goals as goal

pub returns : goal.returns
returns g c = record {
  others = λ test old new run. run_keeps_newest g.met.I.LookupKey.laws g.met.L.Insertion.laws test new old run;
  given = λ old new run. run_evicts g.met.I.LookupKey.laws g.met.L.Insertion.laws new old run;
}
