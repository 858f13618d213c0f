-- Caches with deletes, as the first places of one list.
use Rattle.std.proofs.Common.{◌≡◌, ℕ, zero, suc, ◌+◌, ◌≤◌, Bool, true, false, cond, List, [], ◌∷◌, length, take}
use Rattle.std.proofs.Common.{Option, Some, None, map, refl, sym, ap, ◌∙◌, arith}
use Rattle.std.proofs.Common.{inl, inr}
use Rattle.std.proofs.lemmas.Bool.{lt-ltb, le-ltb, cases_lt}
use Rattle.std.proofs.lemmas.List.{take_all}
use Rattle.std.specs.List.{AllByRecursion}
use Rattle.std.specs.Prelude.{◌||◌, ◌&&◌, nat_lt}
use Rattle.std.specs.Set.{remove_key}
use Rattle.lru_theory.specs.Inclusion.{KeyCall, refers, promotes, removes, clears, looks, after_call, after_calls}
use Rattle.lru_theory.specs.Places.{keys_in, emptied, contains_it, place_of, freed, vacated, place_call, place_calls, IsNoPromotion}
use Rattle.lru_theory.specs.Traces.{is_in, fault, faults}
use Rattle.lru_theory.specs.Places.{call_faults}

pub few_keys : {K : Type 0} (n : ℕ) (places : List (Option K)) → length (keys_in (take n places)) ≤ n
few_keys zero [] = omega arith
few_keys zero (place ∷ places) = omega arith
few_keys (suc n) [] = omega arith
few_keys (suc n) (None ∷ places) = omega (arith, few_keys n places)
few_keys (suc n) (Some key ∷ places) = omega (arith, few_keys n places)

module _ {K : Type 0} (test : K → Bool) where
  pub keys_freed : (n : ℕ) (places : List (Option K))
      → keys_in (take n (freed test places)) ≡ remove_key test (keys_in (take n places))
  keys_freed zero [] = refl
  keys_freed (suc n) [] = refl
  keys_freed zero (place ∷ places) = go (contains_it test place)
    where
      go : (b : Bool) → keys_in (take zero (cond b (None ∷ places) (place ∷ freed test places))) ≡ []
      go true = refl
      go false = refl
  keys_freed (suc n) (None ∷ places) = keys_freed n places
  keys_freed (suc n) (Some key ∷ places) = go (test key) (keys_freed n places)
    where
      go : (b : Bool) → keys_in (take n (freed test places)) ≡ remove_key test (keys_in (take n places))
          → keys_in (take (suc n) (cond b (None ∷ places) (Some key ∷ freed test places)))
          ≡ cond b (keys_in (take n places)) (key ∷ remove_key test (keys_in (take n places)))
      go true ih = refl
      go false ih = ap (λ keys. key ∷ keys) ih

  fewer : (keys : List K) → length (remove_key test keys) ≤ length keys
  fewer [] = omega arith
  fewer (key ∷ keys) = go (test key) (fewer keys)
    where
      go : (b : Bool) → length (remove_key test keys) ≤ length keys
          → length (cond b keys (key ∷ remove_key test keys)) ≤ suc (length keys)
      go true ih = omega arith
      go false ih = omega (arith, ih)

  pub keys_vacated : (n : ℕ) (places : List (Option K))
      → keys_in (take n (vacated test places)) ≡ take n (remove_key test (keys_in (take (suc n) places)))
  keys_vacated zero [] = refl
  keys_vacated (suc n) [] = refl
  keys_vacated n (None ∷ places) =
      keys_freed n places ∙ sym (take_all n (remove_key test (keys_in (take n places)))
      (omega (arith, fewer (keys_in (take n places)), few_keys n places)))
  keys_vacated n (Some key ∷ places) = go (test key) n (λ m. keys_vacated m places)
    where
      go : (b : Bool) (n : ℕ)
          → ((m : ℕ) → keys_in (take m (vacated test places)) ≡ take m (remove_key test (keys_in (take (suc m) places))))
          → keys_in (take n (cond b places (Some key ∷ vacated test places)))
          ≡ take n (cond b (keys_in (take n places)) (key ∷ remove_key test (keys_in (take n places))))
      go true n ih = sym (take_all n (keys_in (take n places)) (few_keys n places))
      go false zero ih = refl
      go false (suc n) ih = ap (λ keys. key ∷ keys) (ih n)

no_keys : {K : Type 0} (n : ℕ) (places : List (Option K)) → keys_in (take n (map emptied places)) ≡ []
no_keys zero [] = refl
no_keys zero (place ∷ places) = refl
no_keys (suc n) [] = refl
no_keys (suc n) (place ∷ places) = no_keys n places

module _ {K : Type 0} (eq : K → K → Bool) where
  pub keys_referred : (n : ℕ) (key : K) (places : List (Option K))
      → keys_in (take n (place_call eq (refers key) places)) ≡ after_call eq n (refers key) (keys_in (take n places))
  keys_referred zero key places = refl
  keys_referred (suc n) key places = ap (λ keys. key ∷ keys) (keys_vacated (eq key) n places)

  pub keys_called : (n : ℕ) (call : KeyCall K) (places : List (Option K)) → IsNoPromotion call
      → keys_in (take n (place_call eq call places)) ≡ after_call eq n call (keys_in (take n places))
  keys_called n (refers key) places h = keys_referred n key places
  keys_called n (promotes key) places h = absurd h
  keys_called n (removes key) places h = keys_freed (eq key) n places
  keys_called n clears places h = no_keys n places
  keys_called n looks places h = refl

  pub keys_after : (n : ℕ) (calls : List (KeyCall K)) (places : List (Option K)) → AllByRecursion IsNoPromotion calls
      → keys_in (take n (place_calls eq calls places)) ≡ after_calls eq n calls (keys_in (take n places))
  keys_after n [] places h = refl
  keys_after n (call ∷ calls) places h =
      keys_after n calls (place_call eq call places) h.1
      ∙ ap (after_calls eq n calls) (keys_called n call places h.0)

  pub plain_faults : (n : ℕ) (trace keys : List K) → call_faults eq n (map refers trace) keys ≡ faults eq n keys trace
  plain_faults n [] keys = refl
  plain_faults n (key ∷ trace) keys = ap (λ more. fault eq key keys + more) (plain_faults n trace (after_call eq n (refers key) keys))

never : (b : Bool) (d : ℕ) → (b && nat_lt d 0) ≡ false
never true d = le-ltb d 0 (omega arith)
never false d = refl

next : (b : Bool) (d n : ℕ) → (b && nat_lt d n) ≡ (b && nat_lt (suc d) (suc n))
next false d n = refl
next true d n = elim (cases_lt d n) [
  | inl h ↦ lt-ltb d n h ∙ sym (lt-ltb (suc d) (suc n) (omega (arith, h)))
  | inr h ↦ le-ltb d n h ∙ sym (le-ltb (suc d) (suc n) (omega (arith, h)))
]

module _ {K : Type 0} (eq : K → K → Bool) (key : K) where
  pub found_within : (n : ℕ) (places : List (Option K)) → is_in eq key (keys_in (take n places))
      ≡ (is_in eq key (keys_in places) && nat_lt (place_of (eq key) places) n)
  found_within zero [] = refl
  found_within (suc n) [] = refl
  found_within zero (place ∷ places) = sym (never (is_in eq key (keys_in (place ∷ places))) (place_of (eq key) (place ∷ places)))
  found_within (suc n) (None ∷ places) = found_within n places ∙ next (is_in eq key (keys_in places)) (place_of (eq key) places) n
  found_within (suc n) (Some other ∷ places) = go (eq key other) (found_within n places)
    where
      go : (b : Bool) → is_in eq key (keys_in (take n places))
          ≡ (is_in eq key (keys_in places) && nat_lt (place_of (eq key) places) n)
          → (b || is_in eq key (keys_in (take n places)))
          ≡ ((b || is_in eq key (keys_in places)) && nat_lt (cond b 0 (suc (place_of (eq key) places))) (suc n))
      go true ih = sym (lt-ltb 0 (suc n) (omega arith))
      go false ih = ih ∙ next (is_in eq key (keys_in places)) (place_of (eq key) places) n
