use Rattle.lru_replay.proofs.ReferenceSteps.{known_lengths, got_refers, promoted_refers}
use Rattle.lru_replay.proofs.ReferenceSteps.{tries_refers, remembers_refers, equal_refers}
use Rattle.lru_replay.proofs.references.calls_make_references.Goals as goal

pub returns : goal.returns
returns g c =
    let laws = g.met.K.Eq.laws in
    let hash_of = g.S.KeyHasher.hash_of in
    let known = known_lengths laws hash_of in
    record {
      inserts = λ key value kept old new keeps sized h. known.insert key value old kept new keeps tt sized h;
      tries = λ key value old new keeps sized h. tries_refers known key value old new keeps sized tt h;
      gets = λ names key value left old same within sized found.
          got_refers laws hash_of names key value left old same within sized found;
      promotes = λ names key value old same within sized found.
          promoted_refers laws hash_of names key value old same within sized found;
      remembers = λ key value kept old new keeps sized ok h.
          remembers_refers known key value old kept new keeps sized ok tt h;
      equal = λ key other old new same h. equal_refers known key other old new same h;
    }
