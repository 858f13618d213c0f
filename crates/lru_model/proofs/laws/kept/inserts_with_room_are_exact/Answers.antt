use Rattle.lru_model.proofs.Theorems.GrantedGrowth.{insert_with_room}
use Rattle.lru_model.proofs.Theorems.RoomyInserts.{is_added, passes_nothing}
use Rattle.lru_model.proofs.laws.kept.inserts_with_room_are_exact.Goals as goal

pub returns-clause-list : goal.returns-clause-list
returns-clause-list g c = λ key value old result new some step.
    insert_with_room g.L.Limiter.rules g.L.Insertion.offers g.I.LookupKey.names key value old new result some step

pub returns-clause-added : goal.returns-clause-added
returns-clause-added g c = λ key value pair old result new some absent accepts step.
    is_added g.L.Limiter.rules g.L.Insertion.offers g.I.LookupKey.names key value pair old result new _ accepts absent
    some step

pub returns-clause-passed : goal.returns-clause-passed
returns-clause-passed g c = λ key value pair old result passed new some absent accepts step.
    passes_nothing g.L.Limiter.rules g.L.Insertion.offers g.I.LookupKey.names key value pair old result new passed
    accepts absent some step
