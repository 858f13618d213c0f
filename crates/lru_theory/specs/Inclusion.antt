-- Calls on LRU caches of several sizes.
use Rattle.std.specs.Prelude.{◌≡◌, ℕ, ◌+◌, ◌-◌, ◌≤◌, Bool, true, if◌then◌else◌, List, [], ◌∷◌, length}
use Rattle.std.specs.Set.{remove_key}
use Rattle.lru_theory.specs.Traces.{is_in, refer}

-- What a call does to the keys of a cache: it references a key (`refers`), makes a stored key the newest (`promotes`),
-- removes a key, removes all keys, or changes nothing (`looks`).
pub data KeyCall (K : Type 0) : Type 0 where
  refers : K → KeyCall K
  promotes : K → KeyCall K
  removes : K → KeyCall K
  clears : KeyCall K
  looks : KeyCall K

module _ {K : Type 0} (eq : K → K → Bool) (n : ℕ) where
  -- the keys of an LRU cache of n places after a call, newest first
  abbrev pub after_call : KeyCall K → List K → List K
  after_call (refers key) keys = refer eq n key keys
  after_call (promotes key) keys = if is_in eq key keys then key ∷ remove_key (eq key) keys else keys
  after_call (removes key) keys = remove_key (eq key) keys
  after_call clears keys = []
  after_call looks keys = keys

  abbrev pub after_calls : List (KeyCall K) → List K → List K
  after_calls [] keys = keys
  after_calls (call ∷ calls) keys = after_calls calls (after_call call keys)

module _ {K : Type 0} (eq : K → K → Bool) where
  -- some keys of ys (or none) can be left out so that the other keys equal the keys of xs, one by one
  pub data IsSubsequence : List K → List K → Type 0 where
    none : (ys : List K) → IsSubsequence [] ys
    both : (x y : K) (xs ys : List K) → eq x y ≡ true → IsSubsequence xs ys → IsSubsequence (x ∷ xs) (y ∷ ys)
    skips : (y : K) (xs ys : List K) → IsSubsequence xs ys → IsSubsequence xs (y ∷ ys)

  pub record IsIncluded (n m : ℕ) (small large : List K) : Type 0 where
    pub keys : IsSubsequence small large
    pub more : length large ≤ length small + (m - n)
