use Rattle.lru_replay.proofs.KeySteps.{promotes_does, removes_does, clears_does, reserves_does, shrinks_does}
use Rattle.lru_replay.proofs.KeySteps.{writes_does, looks_does}
use Rattle.lru_replay.proofs.references.calls_change_the_keys.Goals as goal

pub returns : goal.returns
returns g c =
    let laws = g.met.K.Eq.laws in
    let hash_of = g.S.KeyHasher.hash_of in
    record {
      promotes = λ names key old new same sized e. promotes_does laws hash_of names key old new same sized e;
      removes = λ names key result old new same sized h. removes_does laws hash_of names key result old new same sized h;
      clears = λ old new sized e. clears_does laws hash_of old new sized e;
      reserves = λ n result old new sized h. reserves_does laws hash_of n result old new sized h;
      shrinks = λ result old new sized h. shrinks_does laws hash_of result old new sized h;
      writes = λ names value old. writes_does laws hash_of names value old;
      looks = λ st. looks_does laws hash_of st;
    }
