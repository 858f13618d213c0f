use Rattle.lru_limits.specs.Bytes.{both_own}
use Rattle.lru_model.proofs.Theorems.ByteSteps.{run_keeps_bytes}
use Rattle.lru_model.proofs.laws.bytes.runs_keep_the_bytes.Goals as goal

pub returns : goal.returns
returns g c = let bytes_of = both_own g.K.OwnedBytes.owned g.V.OwnedBytes.owned in
    let eq = g.K.PartialEq.eq in let hash_of = g.S.KeyHasher.hash_of in record {
      kept = λ old new sized run k. (run_keeps_bytes bytes_of eq hash_of new old sized run k).1;
      limit = λ old new sized run k. (run_keeps_bytes bytes_of eq hash_of new old sized run k).0;
    }
