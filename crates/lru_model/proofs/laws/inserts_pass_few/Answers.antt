use Rattle.lru_model.proofs.Theorems.PassedPairs.{few_passed}
use Rattle.lru_model.proofs.Theorems.PlainInserts.{plain_insert}
use Rattle.lru_model.proofs.laws.inserts_pass_few.Goals as goal

pub returns-clause-few : goal.returns-clause-few
returns-clause-few g c = λ key value old result passed new step.
    few_passed g.L.Limiter.rules g.L.Insertion.offers g.I.LookupKey.names _ key value result old passed new step

pub returns-clause-step : goal.returns-clause-step
returns-clause-step g c = λ key value old result passed new step. plain_insert step
