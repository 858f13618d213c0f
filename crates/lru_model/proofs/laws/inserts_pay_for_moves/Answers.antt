use Rattle.lru_model.proofs.Theorems.Moves.{keeps_nothing}
use Rattle.lru_model.proofs.Theorems.Ways.{insert_changes}
use Rattle.lru_model.proofs.Theorems.Potential.{pays_by_storing, bounded_of}
use Rattle.lru_model.proofs.Theorems.PaidMoves.{stays_paid}
use Rattle.lru_model.proofs.Theorems.CountedInsertions.{insert_counts}
use Rattle.lru_model.proofs.laws.inserts_pay_for_moves.Goals as goal

pub returns-clause-rise : goal.returns-clause-rise
returns-clause-rise g c = λ key value old result new ok step. pays_by_storing ok.shrunk
    ((insert_changes keeps_nothing key value old result new step).tables.pays (bounded_of old ok))

pub returns-clause-paid : goal.returns-clause-paid
returns-clause-paid g c = λ key value old result new ok paid step.
    stays_paid _ _ 1 0 old new (insert_changes keeps_nothing key value old result new step).tables ok paid

pub returns-clause-counted : goal.returns-clause-counted
returns-clause-counted g c = λ key value old result new step. insert_counts step
