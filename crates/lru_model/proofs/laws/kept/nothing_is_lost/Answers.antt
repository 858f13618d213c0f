use Rattle.std.proofs.Common.{refl}
use Rattle.lru_model.proofs.Theorems.NothingLost.{loses_nothing, stored_first, others_kept}
use Rattle.lru_model.proofs.laws.kept.nothing_is_lost.Goals as goal

pub returns-clause-all : goal.returns-clause-all
returns-clause-all g c = λ key value old result passed new leaves step.
    loses_nothing g.L.Limiter.rules g.L.Insertion.offers g.I.LookupKey.names leaves key value old result passed new step

pub returns-clause-stored : goal.returns-clause-stored
returns-clause-stored g c = λ key value old passed new leaves step. stored_first
    (loses_nothing g.L.Limiter.rules g.L.Insertion.offers g.I.LookupKey.names leaves key value old _ passed new step)
    refl

pub returns-clause-others : goal.returns-clause-others
returns-clause-others g c = λ key value old result passed new leaves step. others_kept
    (loses_nothing g.L.Limiter.rules g.L.Insertion.offers g.I.LookupKey.names leaves key value old result passed new
    step)
