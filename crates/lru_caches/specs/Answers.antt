-- What a memo or a loader may return, and what a memo remembers.
--     `eq`: the `==` of the keys.
--     `post k v`: the function may return v for k.
use Rattle.std.specs.Prelude.{◌≡◌, ℕ, Bool, true, List, Result, Ok, Err}
use Rattle.std.specs.List.{All}
use Rattle.std.specs.declared.alloc.AllocError.{AllocError}
use Rattle.lru_limits.specs.Rules.{Rules, Offers}
use Rattle.lru_model.specs.GetOrInserts.{MakesNewest}
use Rattle.lru_model.specs.State.{State}

pub record Memoized (K V S H F : Type 0) : Type 0 where
  pub map : State K V S H
  pub function : F

-- The call returned `value`. If `value` was stored for the key, its entry becomes the newest. If no value was stored,
-- the call inserts `value`.
abbrev pub Remembers : {K V S H : Type 0} → Rules K V S → Offers K V S K → (K → K → Bool) → (H → K → ℕ) → K → V
    → State K V S H → State K V S H → Type 0
Remembers rules offers eq hash_of key value old new = (kept : Result Bool AllocError)
    × MakesNewest rules offers eq hash_of (λ made. made ≡ value) key old kept new

module _ {K V : Type 0} (eq : K → K → Bool) (post : K → V → Type 0) where
  -- the function may return the value for `key`, or for a key that equals `key`
  abbrev pub IsAnswer : K → V → Type 0
  IsAnswer key value = (k : K) × (eq key k ≡ true) × post k value

  abbrev pub AreAnswers : List (K × V) → Type 0
  AreAnswers known = All (λ p. IsAnswer p.0 p.1) known

abbrev pub loads : {K V E : Type 0} → (K → Result V E → Type 0) → K → V → Type 0
loads post key value = post key (Ok value)

-- If the function returned a value, `reads` relates this value to the result. If the function failed, the result is the
-- error of the function.
pub data ReadsLoaded {V E R : Type 0} (gives : Result V E → Type 0) (reads : V → R → Type 0) (result : Result R E)
    : Type 0 where
  loaded : (value : V) (given : R) → gives (Ok value) → reads value given → result ≡ Ok given →
      ReadsLoaded gives reads result
  failed : (error : E) → gives (Err error) → result ≡ Err error → ReadsLoaded gives reads result
