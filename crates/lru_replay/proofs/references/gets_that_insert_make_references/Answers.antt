use Rattle.lru_replay.proofs.ReferenceSteps.{known_lengths, makes_refers}
use Rattle.lru_replay.proofs.references.gets_that_insert_make_references.Goals as goal

pub returns : goal.returns
returns g c =
    λ make key kept old new keeps sized h. makes_refers (known_lengths g.met.K.Eq.laws g.S.KeyHasher.hash_of) _ key old
    kept new keeps sized (λ value made. tt) h
