-- Eviction policies other than LRU. The order of the keys in a cache does not matter.
use Rattle.std.specs.Prelude.{◌≡◌, ℕ, ◌+◌, ◌≤◌, Bool, true, false, List, [], ◌∷◌, length}
use Rattle.std.specs.Set.{remove_key}
use Rattle.lru_theory.specs.Traces.{is_in, fault}

module _ {K : Type 0} (eq : K → K → Bool) where
  -- how many keys of the list are not among `others`
  abbrev pub outside : List K → List K → ℕ
  outside others [] = 0
  outside others (key ∷ keys) = fault eq key others + outside others keys

module _ {K : Type 0} (eq : K → K → Bool) (places : ℕ) where
  -- How a demand policy may change its cache at a reference. At a hit, the number of type ℕ is 0, and nothing changes.
  -- At a miss, the number is 1, and the policy stores the key, and evicts any one key or no key.
  pub data Demands (key : K) (old : List K) : ℕ → List K → Type 0 where
    finds : is_in eq key old ≡ true → Demands key old 0 old
    stores : is_in eq key old ≡ false → length old + 1 ≤ places → Demands key old 1 (key ∷ old)
    replaces : is_in eq key old ≡ false → (evicted : K) → length (remove_key (eq evicted) old) + 1 ≤ places →
        Demands key old 1 (key ∷ remove_key (eq evicted) old)

  -- How a policy that may load keys ahead may change its cache at a reference. It may load and evict any keys, and pays
  -- for each key that it loads. After the reference, the referenced key is in the cache.
  pub record Loads (key : K) (old : List K) (paid : ℕ) (new : List K) : Type 0 where
    pub fits : length new ≤ places
    pub stores : is_in eq key new ≡ true
    pub pays : outside eq old new ≤ paid

  -- What `Loads` says, for a policy that need not store the referenced key. If the referenced key was not in the cache,
  -- and is not stored, the policy pays for this key, too.
  pub record Bypasses (key : K) (old : List K) (paid : ℕ) (new : List K) : Type 0 where
    pub fits : length new ≤ places
    pub stored : is_in eq key new ≡ true → outside eq old new ≤ paid
    pub bypassed : is_in eq key new ≡ false → outside eq old new + fault eq key old ≤ paid

-- A policy with these steps began with the cache `old`, served a trace, paid for a number of keys, and ended with the
-- cache `new`.
pub data Served {K : Type 0} (IsStep : K → List K → ℕ → List K → Type 0) (new : List K) : List K → List K → ℕ → Type 0
  where
    ends : Served IsStep new new [] 0
    serves : (key : K) (trace old mid : List K) (one paid : ℕ) → IsStep key old one mid → Served IsStep new mid trace paid
        → Served IsStep new old (key ∷ trace) (one + paid)
