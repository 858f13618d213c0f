use Rattle.lru_model.proofs.Theorems.Moves.{keeps_nothing}
use Rattle.lru_model.proofs.Theorems.Ways.{insert_changes}
use Rattle.lru_model.proofs.Theorems.Potential.{bounded_of}
use Rattle.lru_model.proofs.laws.inserts_grow_little.Goals as goal

pub returns : goal.returns
returns g c = λ key value old result new ok step.
    (insert_changes keeps_nothing key value old result new step).tables.little (bounded_of old ok)
