use Rattle.lru_model.proofs.Theorems.BudgetLimits.{step_budget, step_keeps_total}
use Rattle.lru_model.proofs.laws.calls.calls_keep_the_budget.Goals as goal

pub returns-clause-budget : goal.returns-clause-budget
returns-clause-budget g c = step_budget g.met.L.Budgeted.laws g.met.L.Summing.laws g.K.PartialEq.eq
    g.S.KeyHasher.hash_of

pub returns-clause-total : goal.returns-clause-total
returns-clause-total g c =
    step_keeps_total g.met.L.Budgeted.laws g.met.L.Summing.laws g.K.PartialEq.eq g.S.KeyHasher.hash_of
