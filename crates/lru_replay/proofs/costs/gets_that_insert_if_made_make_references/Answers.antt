use Rattle.lru_replay.proofs.CostReferences.{known_costs}
use Rattle.lru_replay.proofs.ReferenceSteps.{makes_if_made}
use Rattle.lru_replay.proofs.costs.gets_that_insert_if_made_make_references.Goals as goal

pub returns : goal.returns
returns g c = λ weight cost make key kept old new alike keeps sized priced cheap h.
    makes_if_made (known_costs g.met.K.Eq.laws weight cost alike) _ key old kept new keeps sized
    (λ value made. (priced value made, cheap)) h
