use Rattle.lru_model.proofs.Theorems.Reservations.{reserved_list}
use Rattle.lru_model.proofs.laws.reservations_keep_the_list.Goals as goal

pub returns : goal.returns
returns g c = λ n old result new step. reserved_list _ n old result new step
