use Rattle.lru_model.proofs.Theorems.BudgetLimits.{run_budget, run_keeps_total}
use Rattle.lru_model.proofs.laws.runs.runs_keep_the_budget.Goals as goal

pub returns : goal.returns
returns g c = record {
  total = λ old new run was within. run_keeps_total g.met.L.Budgeted.laws g.met.L.Summing.laws g.K.PartialEq.eq
      g.S.KeyHasher.hash_of new old run was within;
  budget = λ old new run. run_budget g.met.L.Budgeted.laws new old run;
}
