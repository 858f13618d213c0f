use Rattle.lru_model.proofs.Theorems.RunLimits.{step_keeps_number, step_uses_at_most}
use Rattle.lru_model.proofs.laws.calls.calls_keep_the_memory_usage.Goals as goal

pub returns : goal.returns
returns g c = record {
  limit = λ most limits old new step.
      step_keeps_number g.I.LookupKey.names g.S.KeyHasher.hash_of limits.fixed old new step;
  usage = λ most limits old new step within.
      step_uses_at_most g.I.LookupKey.names g.S.KeyHasher.hash_of limits old new step within;
}
