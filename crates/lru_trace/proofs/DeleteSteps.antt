-- The steps of a `DeleteCurve`.
use Rattle.std.proofs.Common.{◌≡◌, ℕ, ◌+◌, ◌<◌, Bool, true, false, cond, List, [], ◌∷◌, ◌++◌, length, take}
use Rattle.std.proofs.Common.{Option, Some, None, refl, sym, ap, ◌∙◌, arith, subst, sum}
use Rattle.std.proofs.lemmas.Bool.{lt-ltb, le-ltb, lt-leb, le-leb, cases_lt}
use Rattle.std.proofs.Common.{inl, inr}
use Rattle.std.proofs.lemmas.Option.{none-some, same_Some}
use Rattle.std.specs.Set.{remove_key}
use Rattle.std.specs.Prelude.{String, if◌then◌else◌}
use Rattle.std.specs.Global.{Global}
use Rattle.lru_theory.specs.Traces.{fault}
use Rattle.std.specs.Prelude.{◌&&◌, nat_lt, nat_le, IfSome}
use Rattle.std.specs.Str.{bytes_eq}
use Rattle.lru_theory.specs.Inclusion.{KeyCall, refers, promotes, removes, clears, looks, after_call, after_calls}
use Rattle.lru_theory.specs.Places.{keys_in, place_of, freed, vacated, place_call, place_calls, call_fault, call_faults}
use Rattle.lru_theory.specs.Traces.{is_in}
use Rattle.lru_theory.proofs.Places.{keys_referred, keys_freed, found_within}
use Rattle.lru_trace.specs.Deletes.{Deleting, IsDeleteOf, IsSame, AreNumbers, cache_of, counted_at, missed_calls}
use Rattle.lru_trace.specs.Deletes.{place_number, places_of, referred}
use Rattle.lru_trace.proofs.Numbered.{counted}
use Rattle.lru_trace.proofs.PlaceNumbers.{renumbered}

module _ {K : Type 0} (eq : K → K → Bool) (last : KeyCall K) where
  pub places_more : (calls : List (KeyCall K)) (places : List (Option K))
      → place_calls eq (calls ++ last ∷ []) places ≡ place_call eq last (place_calls eq calls places)
  places_more [] places = refl
  places_more (call ∷ calls) places = places_more calls (place_call eq call places)

  pub cache_more : (n : ℕ) (calls : List (KeyCall K)) (keys : List K)
      → after_calls eq n (calls ++ last ∷ []) keys ≡ after_call eq n last (after_calls eq n calls keys)
  cache_more n [] keys = refl
  cache_more n (call ∷ calls) keys = cache_more n calls (after_call eq n call keys)

  pub faults_more : (n : ℕ) (calls : List (KeyCall K)) (keys : List K) → call_faults eq n (calls ++ last ∷ []) keys
      ≡ call_faults eq n calls keys + call_fault eq last (after_calls eq n calls keys)
  faults_more n [] keys = omega arith
  faults_more n (call ∷ calls) keys = omega (arith, faults_more n calls (after_call eq n call keys))

pub referred_more : (calls : List (KeyCall (List ℕ))) (key : List ℕ) → referred (calls ++ refers key ∷ []) ≡ referred calls + 1
referred_more [] key = refl
referred_more (refers x ∷ calls) key = omega (arith, referred_more calls key)
referred_more (promotes x ∷ calls) key = referred_more calls key
referred_more (removes x ∷ calls) key = referred_more calls key
referred_more (clears ∷ calls) key = referred_more calls key
referred_more (looks ∷ calls) key = referred_more calls key

pub removed_more : (calls : List (KeyCall (List ℕ))) (key : List ℕ) → referred (calls ++ removes key ∷ []) ≡ referred calls
removed_more [] key = refl
removed_more (refers x ∷ calls) key = omega (arith, removed_more calls key)
removed_more (promotes x ∷ calls) key = removed_more calls key
removed_more (removes x ∷ calls) key = removed_more calls key
removed_more (clears ∷ calls) key = removed_more calls key
removed_more (looks ∷ calls) key = removed_more calls key

module _ {warm trace : List (KeyCall (List ℕ))} {old : Deleting} (of : IsDeleteOf warm trace old) where
  pub of_same : (new : Deleting) → IsSame old new → IsDeleteOf warm trace new
  of_same new same = subst (IsDeleteOf warm trace) (sym same.rest) (record {
    placed = renumbered (place_number old.names) (place_number new.names) (places_of warm trace) old.places
        (λ x j e is. same.names x ∙ is) of.placed;
    caches = of.caches;
    hits = of.hits;
    all = of.all;
  })

  pub of_counts : (new : Deleting) → new ≡ record old { counts = new.counts }
      → ((n : ℕ) → sum (take n new.counts) ≡ sum (take n old.counts)) → IsDeleteOf warm trace new
  of_counts new rest same = subst (IsDeleteOf warm trace) (sym rest) (record {
    placed = of.placed;
    caches = of.caches;
    hits = λ n. ap (λ m. missed_calls n warm trace + m) (same n) ∙ of.hits n;
    all = of.all;
  })

  abbrev before : ℕ → List (List ℕ)
  before n = after_calls bytes_eq n warm []

  pub of_removed : (key : List ℕ) (names : List (String Global × ℕ)) (places : List (Option ℕ))
      → AreNumbers (place_number names) (freed (bytes_eq key) (places_of warm trace)) places
      → IsDeleteOf warm (trace ++ removes key ∷ []) (record old { names = names; places = places })
  of_removed key names places numbers =
      let more = places_more bytes_eq (removes key) trace (place_calls bytes_eq warm []) in
      record {
        placed = subst (λ ps. AreNumbers (place_number names) ps places) (sym more) numbers;
        caches = λ n. ap (λ ps. keys_in (take n ps)) more ∙ keys_freed (bytes_eq key) n (places_of warm trace)
            ∙ ap (remove_key (bytes_eq key)) (of.caches n) ∙ sym (cache_more bytes_eq (removes key) n trace (before n));
        hits = λ n. omega (arith, of.hits n, faults_more bytes_eq (removes key) n trace (before n));
        all = of.all ∙ sym (removed_more trace key);
      }

  opposite : (n d : ℕ) → cond {A = ℕ} (nat_lt d n) 0 1 ≡ cond (nat_le n d) 1 0
  opposite n d = elim (cases_lt d n) [
    | inl h ↦ rw (lt-ltb d n h, lt-leb n d h) refl
    | inr h ↦ rw (le-ltb d n h, le-leb n d h) refl
  ]

  module _ (key : List ℕ) (place : Option ℕ)
      (found : place ≡ (if is_in bytes_eq key (keys_in (places_of warm trace))
      then Some (place_of (bytes_eq key) (places_of warm trace)) else None))
      (within : IfSome place (λ p. p < length old.counts)) where
    one_more : (n : ℕ) → sum (take n (counted_at place old.counts)) + fault bytes_eq key (cache_of n warm trace)
        ≡ sum (take n old.counts) + 1
    one_more n =
        ap (λ b. sum (take n (counted_at place old.counts)) + cond b 0 1)
        (ap (is_in bytes_eq key) (sym (of.caches n)) ∙ found_within bytes_eq key n (places_of warm trace))
        ∙ go place (is_in bytes_eq key (keys_in (places_of warm trace))) found within
      where
        go : (o : Option ℕ) (b : Bool) → o ≡ (if b then Some (place_of (bytes_eq key) (places_of warm trace)) else None)
            → IfSome o (λ p. p < length old.counts)
            → sum (take n (counted_at o old.counts)) + cond (b && nat_lt (place_of (bytes_eq key) (places_of warm trace)) n) 0 1
            ≡ sum (take n old.counts) + 1
        go None true e h = absurd (none-some _ e)
        go None false e h = refl
        go (Some d) true e h =
            let same = same_Some d (place_of (bytes_eq key) (places_of warm trace)) e in
            ap (λ p. sum (take n (counted_at (Some d) old.counts)) + cond (nat_lt p n) 0 1) (sym same)
            ∙ ap (λ m. sum (take n (counted_at (Some d) old.counts)) + m) (opposite n d) ∙ counted d n old.counts h
        go (Some d) false e h = absurd (none-some d (sym e))

    pub of_referred : (names : List (String Global × ℕ)) (places : List (Option ℕ))
        → AreNumbers (place_number names) (Some key ∷ vacated (bytes_eq key) (places_of warm trace)) places
        → IsDeleteOf warm (trace ++ refers key ∷ []) (record {
          names = names;
          places = places;
          counts = counted_at place old.counts;
          references = old.references + 1;
        })
    of_referred names places numbers =
        let more = places_more bytes_eq (refers key) trace (place_calls bytes_eq warm []) in
        record {
          placed = subst (λ ps. AreNumbers (place_number names) ps places) (sym more) numbers;
          caches = λ n. ap (λ ps. keys_in (take n ps)) more ∙ keys_referred bytes_eq n key (places_of warm trace)
              ∙ ap (after_call bytes_eq n (refers key)) (of.caches n)
              ∙ sym (cache_more bytes_eq (refers key) n trace (before n));
          hits = λ n. omega (arith, of.hits n, faults_more bytes_eq (refers key) n trace (before n), one_more n);
          all = omega (arith, of.all, referred_more trace key);
        }

module _ {warm : List (KeyCall (List ℕ))} {old : Deleting} (of : IsDeleteOf warm [] old) (key : List ℕ)
    (names : List (String Global × ℕ)) (places : List (Option ℕ)) where
  pub of_warm_removed : AreNumbers (place_number names) (freed (bytes_eq key) (places_of warm [])) places
      → IsDeleteOf (warm ++ removes key ∷ []) [] (record old { names = names; places = places })
  of_warm_removed numbers =
      let more = places_more bytes_eq (removes key) warm [] in
      record {
        placed = subst (λ ps. AreNumbers (place_number names) ps places) (sym more) numbers;
        caches = λ n. ap (λ ps. keys_in (take n ps)) more ∙ keys_freed (bytes_eq key) n (places_of warm [])
            ∙ ap (remove_key (bytes_eq key)) (of.caches n) ∙ sym (cache_more bytes_eq (removes key) n warm []);
        hits = of.hits;
        all = of.all;
      }

  pub of_warm_referred : AreNumbers (place_number names) (Some key ∷ vacated (bytes_eq key) (places_of warm [])) places
      → IsDeleteOf (warm ++ refers key ∷ []) [] (record old { names = names; places = places })
  of_warm_referred numbers =
      let more = places_more bytes_eq (refers key) warm [] in
      record {
        placed = subst (λ ps. AreNumbers (place_number names) ps places) (sym more) numbers;
        caches = λ n. ap (λ ps. keys_in (take n ps)) more ∙ keys_referred bytes_eq n key (places_of warm [])
            ∙ ap (after_call bytes_eq n (refers key)) (of.caches n) ∙ sym (cache_more bytes_eq (refers key) n warm []);
        hits = of.hits;
        all = of.all;
      }
