-- The terms of a limiter that stores each accepted entry unchanged.
--     `Terms K V S`: which entries the limiter accepts, and the limiter after an offer.
--     `offers_of terms`: the offers of a limiter that stores an entry unchanged if the terms accept the entry.
--     `never_changes admits`: the terms of a limiter that never changes, and accepts each new value of a stored key.
--     `offers_of-lawful`: these offers satisfy the laws of `Insertion`.
use Rattle.std.specs.Prelude.{ℕ, Bool, true}
use Rattle.std.specs.Cmp.{IsEquivalence}
use Rattle.lru_limits.specs.Rules.{Offers}
use Rattle.lru_limits.specs.Laws.{IsInsertion}
use Rattle.lru_limits.specs.Stores.{ReturnsPairIf, given-names}

-- The argument of type ℕ is the number of entries of the map.
pub record Terms (K V S : Type 0) : Type 0 where
  -- whether an entry with a new key is accepted
  pub accepts : S → ℕ → K → V → Bool
  -- the limiter after an entry with a new key was offered
  pub admit : S → ℕ → K → V → S
  -- whether a new value of a stored key is accepted
  pub accepts_in_place : S → ℕ → K → V → V → Bool
  -- the limiter after a new value of a stored key was offered
  pub admit_in_place : S → ℕ → K → V → V → S

module _ {K V S : Type 0} (terms : Terms K V S) where
  abbrev pub offers_of : Offers K V S K
  offers_of = record {
    on_insert = λ s n k v t given. ReturnsPairIf (terms.accepts s n k v) (terms.admit s n k v) k v t given;
    may_run_out = λ s n k v. ⊥;
    on_replace = λ s n k i v w. record {
      limiter = terms.admit_in_place s n k v w;
      taken = terms.accepts_in_place s n k v w;
      key = k;
      old_value = v;
      new_value = w;
    };
  }

  pub offers_of-lawful : (eq : K → K → Bool) → IsEquivalence eq → IsInsertion eq eq offers_of
  offers_of-lawful eq e = record {
    names_given = λ s n i v t k w given. given-names eq e.refl given;
    keeps_key = λ s n k i v w named. e.refl k;
  }

abbrev pub never_changes : {K V S : Type 0} → (S → K → V → Bool) → Terms K V S
never_changes admits = record {
  accepts = λ s n k v. admits s k v;
  admit = λ s n k v. s;
  accepts_in_place = λ s n k v w. true;
  admit_in_place = λ s n k v w. s;
}
