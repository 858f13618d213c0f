-- Definitions for `src/laws/kept.rt`: what an insert keeps.
use Rattle.std.specs.Prelude.{◌≡◌, ◌⊎◌, ℕ, ◌+◌, ◌-◌, ◌^◌, ◌≤◌, ◌<◌, Bool, true, false, not, List, []}
use Rattle.std.specs.Prelude.{◌∷◌, ◌++◌, length, reverse, take, fold, nat_lt, Option, Some, None, unwrap_or}
use Rattle.std.specs.Prelude.{option_map, Result, Ok, IsOk, IsErr, OnOk, OnErr}
use Rattle.std.specs.declared.alloc.AllocError.{AllocError}
use Rattle.lru_limits.specs.Rules.{Rules, Offers}
use Rattle.lru_model.specs.Sizes.{max_of_32_bits}
use Rattle.lru_model.specs.Lists.{is_empty, lookup_entry, without}
use Rattle.lru_model.specs.State.{State, Contents, contents, buckets, growth_left, IsSized}
use Rattle.lru_model.specs.Inserts.{replacement, with_old_value, MayGive}
use Rattle.lru_model.specs.Theorems.{Stores}

module _ {K V S H I : Type 0} (rules : Rules K V S) (offers : Offers K V S I) (names : I → K → Bool) where
  -- A value is lost only if the insert replaces or rejects it. After the insert, each old pair, and the pair that the
  -- limiter returned for a new key, is in the map or was passed to the callback. `passed` lists the pairs that the
  -- callback got, in order.
  pub data LosesNothing (i : I) (v : V) (old : State K V S H) (result : Result Bool AllocError)
      (passed : List (K × V)) (new : State K V S H) : Type 0 where
    -- A pair is stored in front of the old pairs of other keys. The oldest pairs may be evicted, even the stored pair.
    stored : (pair : K × V) → Stores rules offers names i v old pair →
        result ≡ Ok (not (is_empty new.pairs)) →
        new.pairs ++ reverse passed ≡ pair ∷ without (names i) old.pairs →
        LosesNothing i v old result passed new
    -- The map contains the key, and the limiter rejects the new value. Only the pair of this key is passed to the
    -- callback, with the old value.
    value_rejected : (was : K × V) → lookup_entry (names i) old.pairs ≡ Some was →
        (replacement rules offers names was i v (contents old)).taken ≡ false →
        result ≡ Ok false →
        passed ≡ with_old_value rules offers names was i v (contents old) ∷ [] →
        new.pairs ≡ without (names i) old.pairs →
        LosesNothing i v old result passed new
    -- The key is new, and the limiter either runs out of memory or returns no pair to store. All pairs of the map stay.
    nothing_to_store : lookup_entry (names i) old.pairs ≡ None →
        (offers.may_run_out old.limiter (length old.pairs) i v × IsErr result)
        ⊎ ((s : S) × MayGive rules offers names i v (contents old) s None × (result ≡ Ok false)) →
        passed ≡ [] → new.pairs ≡ old.pairs →
        LosesNothing i v old result passed new
    -- The key is new, and the pair that the limiter returns is not stored. The callback gets this pair last.
    pair_not_stored : lookup_entry (names i) old.pairs ≡ None →
        (s : S) (pair : K × V) → MayGive rules offers names i v (contents old) s (Some pair) →
        (result ≡ Ok true → ⊥) →
        (evicted : List (K × V)) → passed ≡ evicted ++ pair ∷ [] → new.pairs ++ reverse evicted ≡ old.pairs →
        LosesNothing i v old result passed new

  -- the insert adds the pair, and all old pairs stay
  pub record IsAdded (i : I) (v : V) (pair : K × V) (old : State K V S H) (result : Result Bool AllocError)
      (new : State K V S H) : Type 0 where
    pub answer : result ≡ Ok true
    pub pairs : new.pairs ≡ pair ∷ old.pairs
    pub limiter : MayGive rules offers names i v (contents old) new.limiter (Some pair)
    pub table : buckets new ≡ buckets old
    pub growth_left : growth_left old ≤ growth_left new + 1

module _ {K V S I : Type 0} (rules : Rules K V S) (offers : Offers K V S I) (names : I → K → Bool) where
  -- If this key and this value are offered, the limiter does not run out of memory, and returns `pair`. With one pair
  -- more, the map is not over the limit.
  pub record AcceptsNew (i : I) (v : V) (c : Contents K V S) (pair : K × V) : Type 0 where
    pub finds : offers.may_run_out c.limiter (length c.pairs) i v → ⊥
    pub gives : (s : S) (given : Option (K × V)) → MayGive rules offers names i v c s given →
        (given ≡ Some pair) × (rules.is_over_the_limit s (length c.pairs + 1) ≡ false)

-- the stored key of the named pair, or `key` if no pair is named
abbrev pub stored_key : {K V : Type 0} → (K → Bool) → K → List (K × V) → K
stored_key names key pairs = unwrap_or (option_map (λ pair. pair.0) (lookup_entry names pairs)) key

-- The pairs of the map after the pairs `inserted` were inserted into `old`, one after another. Each insert keeps the
-- newest `most` pairs.
abbrev pub newest_after : {K V : Type 0} → (K → K → Bool) → ℕ → List (K × V) → List (K × V) → List (K × V)
newest_after eq most inserted old = fold
    (λ left pair. take most ((stored_key (eq pair.0) pair.0 left, pair.1) ∷ without (eq pair.0) left)) old inserted

-- The pairs after an insert into a map with the maximum length `most`: the new pair, and the newest pairs of other
-- keys, up to `most` pairs in all. If the insert runs out of memory, the newest `most` - 1 of the old pairs stay.
pub record LeavesTheNewest {K V : Type 0} (eq : K → K → Bool) (most : ℕ) (key : K) (value : V) (old : List (K × V))
    (result : Result Bool AllocError) (new : List (K × V)) : Type 0 where
  pub answer : IsOk result → result ≡ Ok (nat_lt 0 most)
  pub newest : OnOk result (new ≡ take most ((stored_key (eq key) key old, value) ∷ without (eq key) old))
  pub others : OnErr result (new ≡ take (most - 1) old)

-- half of the capacity of the largest table with links of 32 bits
abbrev pub most_exact_length : ℕ
most_exact_length = 939524096

-- The map is within its maximum length (`within`). The other fields together imply that there is a table for each
-- length up to this maximum.
pub record KeepsToLength {K V H : Type 0} (st : State K V ℕ H) : Type 0 where
  pub within : length st.pairs ≤ st.limiter
  pub half : st.limiter ≤ most_exact_length
  pub links : st.max ≡ max_of_32_bits
  pub entry : st.entry_bytes < 2 ^ 32 - 1
  pub sized : IsSized st
