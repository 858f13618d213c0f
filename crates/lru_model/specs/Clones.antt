-- A clone of a map has clones of the map's keys, values, limiter and hasher, and equals the map in all other fields.
--     `same_key`, `same_value`, ..: whether the second argument is a clone of the first.
use Rattle.std.specs.Prelude.{◌≡◌}
use Rattle.std.specs.List.{AllZip}
use Rattle.lru_model.specs.State.{State}

module _ {K V : Type 0} (same_key : K → K → Type 0) (same_value : V → V → Type 0) where
  pub record IsPairClone (pair copy : K × V) : Type 0 where
    pub key : same_key pair.0 copy.0
    pub value : same_value pair.1 copy.1

  module _ {S H : Type 0} (same_limiter : S → S → Type 0) (same_hasher : H → H → Type 0) where
    pub record IsClone (old new : State K V S H) : Type 0 where
      pub pairs : AllZip IsPairClone old.pairs new.pairs
      pub limiter : same_limiter old.limiter new.limiter
      pub hasher : same_hasher old.hasher new.hasher
      pub rest : new ≡ record old { pairs = new.pairs; limiter = new.limiter; hasher = new.hasher }
