-- What `ensure_newest` and `get_or_insert` do: they look up a key, and insert the key if the map does not contain it.
-- In their fallible forms, the closure may fail.
--     `makes v`: the closure may return v.
use Rattle.std.specs.Prelude.{◌≡◌, ℕ, Bool, true, false, length, Some, None, Result, Ok, Err, OnErr, IsErrOf}
use Rattle.std.specs.declared.alloc.AllocError.{AllocError}
use Rattle.lru_limits.specs.Rules.{Rules, Offers}
use Rattle.lru_model.specs.Lists.{lookup, lookup_entry}
use Rattle.lru_model.specs.State.{State}
use Rattle.lru_model.specs.Calls.{promoted}
use Rattle.lru_model.specs.Inserts.{Insert, IsOutOfMemory}
use Rattle.lru_model.specs.Theorems.{IsNewest}
use Rattle.lru_model.specs.declared.results.GetOrInsertError.{GetOrInsertError}
use Rattle.lru_model.specs.declared.results.GetOrInsertError.TheVariants.{Memory, Caller}

module _ {K V S H I : Type 0} (rules : Rules K V S) (offers : Offers K V S I) (names : I → K → Bool)
    (hash_of : H → K → ℕ) where
  -- If the map contains the key, the pair of the key becomes the newest. Otherwise, the key is inserted with a value
  -- that the closure returns. The result says whether the map contains the key afterwards.
  pub data MakesNewest (makes : V → Type 0) (i : I) (old : State K V S H) (result : Result Bool AllocError)
      (new : State K V S H) : Type 0 where
    got : (w : V) → lookup (names i) old.pairs ≡ Some w →
        result ≡ Ok true → new ≡ promoted (names i) old →
        MakesNewest makes i old result new
    inserted : lookup (names i) old.pairs ≡ None →
        (v : V) → makes v → Insert rules offers names hash_of i v old result new →
        MakesNewest makes i old result new

  -- the closure returned a value, and the insert of this value ran out of memory
  abbrev pub IsOutOfMemoryFor : (makes : V → Type 0) → I → State K V S H → State K V S H → Type 0
  IsOutOfMemoryFor makes i old new = (v : V) × makes v × IsOutOfMemory rules offers names hash_of i v old new

module _ {K V S H E : Type 0} (rules : Rules K V S) where
  -- If the result is true, the pair of the key is the newest, and if the key was new, the limiter is not over its
  -- limit. If the result is false or an error, the map does not contain the key.
  abbrev pub SaysNewest : (K → Bool) → State K V S H → Result Bool E → State K V S H → Type 0
  SaysNewest names old (Ok true) new = IsNewest names new.pairs
      × (lookup names old.pairs ≡ None → rules.is_over_the_limit new.limiter (length new.pairs) ≡ false)
  SaysNewest names old result new = lookup_entry names new.pairs ≡ None

module _ {K V S H I : Type 0} (rules : Rules K V S) (offers : Offers K V S I) (names : I → K → Bool)
    (hash_of : H → K → ℕ) where
  pub record GetsOrInserts (makes : V → Type 0) (i : I) (old : State K V S H) (result : Result Bool AllocError)
      (new : State K V S H) : Type 0 where
    pub step : MakesNewest rules offers names hash_of makes i old result new
    pub says : SaysNewest rules (names i) old result new
    pub out_of_memory : OnErr result (IsOutOfMemoryFor rules offers names hash_of makes i old new)

-- the result of an insert, with the error `Memory` instead of `AllocError`
abbrev pub or_memory : {E : Type 0} → Result Bool AllocError → Result Bool (GetOrInsertError E)
or_memory (Ok kept) = Ok kept
or_memory (Err e) = Err Memory

module _ {K V S H I E : Type 0} (rules : Rules K V S) (offers : Offers K V S I) (names : I → K → Bool)
    (hash_of : H → K → ℕ) where
  -- If the closure fails, nothing changes, and the call returns the error of the closure. Otherwise, the call does what
  -- `MakesNewest` says. If memory runs out, the call returns `Memory`.
  pub data MakesNewestIfMade (makes : Result V E → Type 0) (i : I) (old : State K V S H)
      (result : Result Bool (GetOrInsertError E)) (new : State K V S H) : Type 0 where
    failed : lookup (names i) old.pairs ≡ None →
        (e : E) → makes (Err e) → result ≡ Err (Caller e) → new ≡ old →
        MakesNewestIfMade makes i old result new
    as_made : (flag : Result Bool AllocError) →
        MakesNewest rules offers names hash_of (λ v. makes (Ok v)) i old flag new → result ≡ or_memory flag →
        MakesNewestIfMade makes i old result new

  pub record GetsOrInsertsIfMade (makes : Result V E → Type 0) (i : I) (old : State K V S H)
      (result : Result Bool (GetOrInsertError E)) (new : State K V S H) : Type 0 where
    pub step : MakesNewestIfMade makes i old result new
    pub says : SaysNewest rules (names i) old result new
    pub out_of_memory : IsErrOf result Memory
        → IsOutOfMemoryFor rules offers names hash_of (λ v. makes (Ok v)) i old new
