use Rattle.lru_model.proofs.Theorems.OtherPairs.{step_keeps_newest}
use Rattle.lru_model.proofs.Theorems.RunEvictions.{step_evicts}
use Rattle.lru_model.proofs.laws.calls.calls_evict_the_oldest.Goals as goal

pub returns : goal.returns
returns g c = record {
  others = λ test old new step.
      step_keeps_newest g.met.I.LookupKey.laws g.met.L.Insertion.laws test old new step.0 step.1;
  given = λ old new step. step_evicts g.met.I.LookupKey.laws g.met.L.Insertion.laws old new step;
}
