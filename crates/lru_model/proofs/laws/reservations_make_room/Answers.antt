use Rattle.lru_model.proofs.Theorems.Reservations.{makes_room}
use Rattle.lru_model.proofs.laws.reservations_make_room.Goals as goal

pub returns : goal.returns
returns g c = λ n old new ok step.
    makes_room _ n old new ok step
