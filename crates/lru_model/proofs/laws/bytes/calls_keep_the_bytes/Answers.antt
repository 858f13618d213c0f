use Rattle.lru_limits.specs.Bytes.{both_own}
use Rattle.lru_model.proofs.Theorems.ByteSteps.{step_keeps_bytes, try_keeps_bytes, trim_keeps_bytes, kept_takes}
use Rattle.lru_model.proofs.Theorems.ByteSteps.{grown_fits, empty_keeps_bytes}
use Rattle.lru_model.proofs.laws.bytes.calls_keep_the_bytes.Goals as goal

pub returns : goal.returns
returns g c = let bytes_of = both_own g.K.OwnedBytes.owned g.V.OwnedBytes.owned in
    let eq = g.K.PartialEq.eq in let hash_of = g.S.KeyHasher.hash_of in record {
      kept = λ old new sized step k. (step_keeps_bytes bytes_of eq hash_of old new sized step k).1;
      limit = λ old new sized step k. (step_keeps_bytes bytes_of eq hash_of old new sized step k).0;
      tried = try_keeps_bytes bytes_of eq hash_of;
      memory = kept_takes bytes_of;
      grown = grown_fits bytes_of;
      begins = λ limit entry_bytes hasher. empty_keeps_bytes bytes_of limit hasher entry_bytes _;
      trimmed = trim_keeps_bytes bytes_of;
    }
