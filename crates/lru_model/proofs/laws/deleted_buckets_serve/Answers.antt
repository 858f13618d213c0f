use Rattle.std.proofs.Common.{refl}
use Rattle.lru_model.proofs.Theorems.DeletedBuckets.{deleted_serves, only_deleted}
use Rattle.lru_model.proofs.Theorems.Potential.{bounded_of}
use Rattle.lru_model.proofs.Theorems.RoomyInserts.{deleted_adds}
use Rattle.lru_model.proofs.laws.deleted_buckets_serve.Goals as goal

pub returns-clause-served : goal.returns-clause-served
returns-clause-served g c = λ pair old outcome new full first step. deleted_serves _ _ pair old full.0 full.1 first
    outcome new step

pub returns-clause-only : goal.returns-clause-only
returns-clause-only g c = λ pair old new full sized step is.
    only_deleted _ _ pair old full.0 full.1 (bounded_of old sized) _ new refl step is

pub returns-clause-added : goal.returns-clause-added
returns-clause-added g c = λ key value pair old result new full absent first accepts step.
    deleted_adds g.L.Limiter.rules g.L.Insertion.offers g.I.LookupKey.names key value pair old result new _ accepts absent
    full first step
