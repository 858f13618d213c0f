-- The best possible eviction policies, which know the rest of the trace.
use Rattle.std.specs.Prelude.{ℕ, zero, suc, ◌+◌, Bool, nat_le, if◌then◌else◌, List, [], ◌∷◌, take}
use Rattle.std.specs.Set.{remove_key}
use Rattle.lru_theory.specs.Traces.{fault}

module _ {K : Type 0} (eq : K → K → Bool) where
  -- how many references come before the next reference to the key, or the length of the trace if there is none
  abbrev pub until : K → List K → ℕ
  until key [] = 0
  until key (other ∷ trace) = if eq key other then 0 else suc (until key trace)

  -- the list of keys after this key was inserted; the keys are in the order of their next references in the trace
  abbrev pub put : List K → K → List K → List K
  put trace key [] = key ∷ []
  put trace key (other ∷ keys) = if nat_le (until key trace) (until other trace) then key ∷ (other ∷ keys)
      else other ∷ put trace key keys

  -- The keys of MIN with n places after a reference to the key, in the order of their next references. Unless n is 0,
  -- MIN stores the key. If MIN now has more than n keys, it evicts the old key whose next reference comes last.
  abbrev pub min_refer : ℕ → K → List K → List K → List K
  min_refer zero key trace keys = []
  min_refer (suc n) key trace keys = put trace key (take n (remove_key (eq key) keys))

  -- The keys of MIN with bypass after a reference to the key: the n keys whose next references come first.
  abbrev pub bypass_refer : ℕ → K → List K → List K → List K
  bypass_refer n key trace keys = take n (put trace key (remove_key (eq key) keys))

  -- The number of misses of the trace. The cache begins with `keys`, and `refer` changes its keys at each reference.
  abbrev pub faults_ahead : (K → List K → List K → List K) → List K → List K → ℕ
  faults_ahead refer keys [] = 0
  faults_ahead refer keys (key ∷ trace) = fault eq key keys + faults_ahead refer (refer key trace keys) trace

  -- the number of misses of MIN with n places on the trace, if MIN begins with no keys
  abbrev pub min_misses : ℕ → List K → ℕ
  min_misses n trace = faults_ahead (min_refer n) [] trace

  -- the number of misses of MIN with bypass and n places on the trace, if it begins with no keys
  abbrev pub bypass_misses : ℕ → List K → ℕ
  bypass_misses n trace = faults_ahead (bypass_refer n) [] trace
