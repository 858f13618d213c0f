-- LRU caches that limit the sum of the costs of their keys.
use Rattle.std.specs.Prelude.{◌≡◌, ℕ, ◌+◌, ◌-◌, Bool, true, not, ◌||◌, nat_le, nat_lt, if◌then◌else◌, List, [], ◌∷◌}
use Rattle.std.specs.Prelude.{sum_by}
use Rattle.std.specs.Set.{remove_key}
use Rattle.lru_theory.specs.Traces.{is_in, recency, since, cached_by, faults_by}

module _ {K : Type 0} (cost : K → ℕ) where
  -- the longest prefix of the list whose keys together cost at most n
  abbrev pub affordable : ℕ → List K → List K
  affordable n [] = []
  affordable n (key ∷ keys) = if nat_le (cost key) n then key ∷ affordable (n - cost key) keys else []

module _ {K : Type 0} (eq : K → K → Bool) (cost : K → ℕ) where
  -- The keys of an LRU cache with the limit n after a reference, newest first. The key becomes the newest, and the
  -- oldest keys are evicted while the keys cost more than n.
  abbrev pub refer_within : ℕ → K → List K → List K
  refer_within n key keys = affordable cost n (key ∷ remove_key (eq key) keys)

  -- the keys of the cache after a trace
  abbrev pub cached_within : ℕ → List K → List K → List K
  cached_within n = cached_by (refer_within n)

  -- the number of misses of the trace in the cache
  abbrev pub faults_within : ℕ → List K → List K → ℕ
  faults_within n = faults_by eq (refer_within n)

  abbrev pub EqualCosts : Type 0
  EqualCosts = (x y : K) → eq x y ≡ true → cost x ≡ cost y

  -- the cost of the key, plus the costs of the different keys that were referenced after the last reference to the key
  abbrev pub needs : K → List K → ℕ
  needs key past = cost key + sum_by cost (recency eq (since eq key past))

  -- A reference to the key misses in a cache with the limit n if it is the first reference to the key, or if the key
  -- needs more than n (`needs`).
  abbrev pub is_far_within : ℕ → K → List K → Bool
  is_far_within n key past = not (is_in eq key past) || nat_lt n (needs key past)

  -- the number of misses of a trace in a cache with the limit n, if `past` comes before the trace
  abbrev pub misses_within : ℕ → List K → List K → ℕ
  misses_within n past [] = 0
  misses_within n past (key ∷ trace) =
      (if is_far_within n key past then 1 else 0) + misses_within n (key ∷ past) trace
