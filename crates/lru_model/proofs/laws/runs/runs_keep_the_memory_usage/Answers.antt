use Rattle.lru_model.proofs.Theorems.RunLimits.{run_keeps_number, run_uses_at_most}
use Rattle.lru_model.proofs.laws.runs.runs_keep_the_memory_usage.Goals as goal

pub returns : goal.returns
returns g c = record {
  limit = λ most limits old new run.
      run_keeps_number g.I.LookupKey.names g.S.KeyHasher.hash_of limits.fixed new old run;
  usage = λ most limits old new run within.
      run_uses_at_most g.I.LookupKey.names g.S.KeyHasher.hash_of limits new old run within;
}
