use Rattle.lru_model.proofs.Theorems.RunLimits.{run_keeps_number, run_stays_short}
use Rattle.lru_model.proofs.laws.runs.runs_keep_the_length.Goals as goal

pub returns : goal.returns
returns g c = record {
  limit = λ most limits old new run.
      run_keeps_number g.I.LookupKey.names g.S.KeyHasher.hash_of limits.fixed new old run;
  length = λ most limits old new run within.
      run_stays_short g.I.LookupKey.names g.S.KeyHasher.hash_of limits new old run within;
}
