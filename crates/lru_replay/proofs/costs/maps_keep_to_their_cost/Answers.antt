use Rattle.lru_replay.proofs.CostMaps.{new_keeps}
use Rattle.lru_replay.proofs.costs.maps_keep_to_their_cost.Goals as goal

pub returns : goal.returns
returns g c = λ weight cost limit entry_bytes max hasher fits dear small above.
    new_keeps cost limit dear weight entry_bytes max hasher fits small above
