-- One list of places for LRU caches of every size. A place contains a key, or is free.
use Rattle.std.specs.Prelude.{ℕ, suc, ◌+◌, Bool, false, if◌then◌else◌, List, [], ◌∷◌, Option, Some, None, map}
use Rattle.lru_theory.specs.Traces.{fault}
use Rattle.lru_theory.specs.Inclusion.{KeyCall, refers, promotes, removes, clears, looks, after_call}

abbrev pub emptied : {K : Type 0} → Option K → Option K
emptied place = None

abbrev pub keys_in : {K : Type 0} → List (Option K) → List K
keys_in [] = []
keys_in (None ∷ places) = keys_in places
keys_in (Some key ∷ places) = key ∷ keys_in places

module _ {K : Type 0} (test : K → Bool) where
  abbrev pub contains_it : Option K → Bool
  contains_it None = false
  contains_it (Some key) = test key

  -- the number of places before the first place whose key passes the test, or of all places if no key passes the test
  abbrev pub place_of : List (Option K) → ℕ
  place_of [] = 0
  place_of (place ∷ places) = if contains_it place then 0 else suc (place_of places)

  -- the places after a removal of the first key that passes the test: its place becomes free
  abbrev pub freed : List (Option K) → List (Option K)
  freed [] = []
  freed (place ∷ places) = if contains_it place then None ∷ places else place ∷ freed places

  -- The places without the first place that is free or whose key passes the test. If the omitted place was free, the
  -- first key that passes the test is removed, too (`freed`).
  abbrev pub vacated : List (Option K) → List (Option K)
  vacated [] = []
  vacated (None ∷ places) = freed places
  vacated (Some key ∷ places) = if test key then places else Some key ∷ vacated places

module _ {K : Type 0} (eq : K → K → Bool) where
  -- the places after a call (no law covers `promotes`)
  abbrev pub place_call : KeyCall K → List (Option K) → List (Option K)
  place_call (refers key) places = Some key ∷ vacated (eq key) places
  place_call (promotes key) places = places
  place_call (removes key) places = freed (eq key) places
  place_call clears places = map emptied places
  place_call looks places = places

  abbrev pub place_calls : List (KeyCall K) → List (Option K) → List (Option K)
  place_calls [] places = places
  place_calls (call ∷ calls) places = place_calls calls (place_call call places)

  abbrev pub call_fault : KeyCall K → List K → ℕ
  call_fault (refers key) keys = fault eq key keys
  call_fault (promotes key) keys = 0
  call_fault (removes key) keys = 0
  call_fault clears keys = 0
  call_fault looks keys = 0

  -- how many of the calls reference a key that is not cached, in an LRU cache of n places that begins with `keys`
  abbrev pub call_faults : ℕ → List (KeyCall K) → List K → ℕ
  call_faults n [] keys = 0
  call_faults n (call ∷ calls) keys = call_fault call keys + call_faults n calls (after_call eq n call keys)

abbrev pub IsNoPromotion : {K : Type 0} → KeyCall K → Type 0
IsNoPromotion (refers key) = Unit {0}
IsNoPromotion (promotes key) = ⊥
IsNoPromotion (removes key) = Unit {0}
IsNoPromotion clears = Unit {0}
IsNoPromotion looks = Unit {0}
