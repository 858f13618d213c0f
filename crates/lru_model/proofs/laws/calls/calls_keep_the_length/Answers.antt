use Rattle.lru_model.proofs.Theorems.RunLimits.{step_keeps_number, step_stays_short}
use Rattle.lru_model.proofs.laws.calls.calls_keep_the_length.Goals as goal

pub returns : goal.returns
returns g c = record {
  limit = λ most limits old new step.
      step_keeps_number g.I.LookupKey.names g.S.KeyHasher.hash_of limits.fixed old new step;
  length = λ most limits old new step within.
      step_stays_short g.I.LookupKey.names g.S.KeyHasher.hash_of limits old new step within;
}
