use Rattle.lru_model.proofs.Theorems.PaidInsertions.{try_insert_one, paid_run}
use Rattle.lru_model.proofs.laws.insertions.try_inserts_pay_for_moves.Goals as goal

pub returns-clause-rise : goal.returns-clause-rise
returns-clause-rise g c = λ key value old result new ok step. (try_insert_one key value old new result ok step).rises

pub returns-clause-stored : goal.returns-clause-stored
returns-clause-stored g c = λ key value old result new ok step. (try_insert_one key value old new result ok step).pays

pub returns-clause-runs : goal.returns-clause-runs
returns-clause-runs g c = λ old new run ok. paid_run new old run ok
