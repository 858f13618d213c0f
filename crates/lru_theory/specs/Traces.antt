-- Definitions for traces. A trace is the list of the keys that were referenced, in order of time.
--     `past`: the keys of earlier references, newest first.
use Rattle.std.specs.Prelude.{◌≡◌, ℕ, ◌+◌, Bool, true, not, ◌||◌, nat_le, if◌then◌else◌, List, [], ◌∷◌, length, take}
use Rattle.std.specs.Cmp.Lexicographic.{pointwise}
use Rattle.std.specs.List.{list_any}
use Rattle.std.specs.Set.{remove_key}

-- The keys of a cache after a trace. The cache begins with `keys`, and `refer` changes them at each reference.
abbrev pub cached_by : {K : Type 0} → (K → List K → List K) → List K → List K → List K
cached_by refer keys [] = keys
cached_by refer keys (key ∷ trace) = cached_by refer (refer key keys) trace

module _ {K : Type 0} (eq : K → K → Bool) where
  abbrev pub is_in : K → List K → Bool
  is_in key keys = list_any (eq key) keys

  -- the two lists have the same length, and are equal key by key
  abbrev pub AreEqual : List K → List K → Type 0
  AreEqual keys others = pointwise eq keys others ≡ true

  -- The recency list contains each key of the past once, and begins with the last referenced key.
  abbrev pub recency : List K → List K
  recency [] = []
  recency (key ∷ past) = key ∷ remove_key (eq key) (recency past)

  -- the references after the last reference to the key
  abbrev pub since : K → List K → List K
  since key [] = []
  since key (other ∷ past) = if eq key other then [] else other ∷ since key past

  -- The reuse distance of the key: how many different keys were referenced after the last reference to the key.
  abbrev pub distance : K → List K → ℕ
  distance key past = length (recency (since key past))

  -- A reference to the key misses in a cache of n places if it is the first reference to the key, or if the key's reuse
  -- distance is at least n.
  abbrev pub is_far : ℕ → K → List K → Bool
  is_far n key past = not (is_in key past) || nat_le n (distance key past)

  -- the number of misses of a trace in a cache of n places, if `past` comes before the trace
  abbrev pub misses : ℕ → List K → List K → ℕ
  misses n past [] = 0
  misses n past (key ∷ trace) = (if is_far n key past then 1 else 0) + misses n (key ∷ past) trace

  -- The keys of an LRU cache of n places after a reference, newest first. The key becomes the newest. If the cache now
  -- has more than n keys, the oldest key is evicted.
  abbrev pub refer : ℕ → K → List K → List K
  refer n key keys = take n (key ∷ remove_key (eq key) keys)

  abbrev pub fault : K → List K → ℕ
  fault key keys = if is_in key keys then 0 else 1

  -- The number of misses of the trace. The cache begins with `keys`, and `refer` changes its keys at each reference.
  abbrev pub faults_by : (K → List K → List K) → List K → List K → ℕ
  faults_by refer keys [] = 0
  faults_by refer keys (key ∷ trace) = fault key keys + faults_by refer (refer key keys) trace

  abbrev pub cached : ℕ → List K → List K → List K
  cached n = cached_by (refer n)

  abbrev pub faults : ℕ → List K → List K → ℕ
  faults n = faults_by (refer n)

-- the past after these references: the keys of the trace, newest first, followed by the old past
abbrev pub past_after : {K : Type 0} → List K → List K → List K
past_after past [] = past
past_after past (key ∷ trace) = past_after (key ∷ past) trace
