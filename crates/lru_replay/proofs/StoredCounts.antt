use Rattle.std.proofs.Common.{◌≡◌, ℕ, zero, suc, ◌^◌, ◌<◌, Bool, true, false, cond, List, [], ◌∷◌, take}
use Rattle.std.proofs.Common.{Some, None, Result, Ok, refl, sym, ap, ◌∙◌, arith}
use Rattle.std.specs.Prelude.{IsOk, ◌||◌}
use Rattle.std.specs.declared.alloc.AllocError.{AllocError}
use Rattle.std.specs.List.{list_any}
use Rattle.std.specs.Set.{remove_key}
use Rattle.group_table.specs.Change.{count_up}
use Rattle.lru_limits.specs.Rules.{Rules, Offers}
use Rattle.lru_model.specs.Inserts.{Insert, replaced, not_replaced, no_memory_to_admit, not_admitted, admitted}
use Rattle.lru_model.specs.Lists.{keys_of, lookup, lookup_entry, without}
use Rattle.lru_model.specs.Place.{Place, Outcome, placed, refused, no_memory, in_bucket, rehashed, grown, not_grown}
use Rattle.lru_model.specs.Place.{IsPlacedIfMemory, OldestEvicted, CannotGrow, no_target, denied, Evicts}
use Rattle.lru_model.specs.Place.{nothing_to_evict, finds_bucket, rehashes}
use Rattle.lru_model.specs.State.{State}
use Rattle.lru_model.proofs.States.Outcomes.{ok-not_err}
use Rattle.lru_theory.specs.Traces.{is_in}

pub clash : {A : Type 0} → false ≡ true → A
clash e = absurd cc

module _ {K V : Type 0} where
  pub keys_without : (test : K → Bool) (xs : List (K × V)) → keys_of (without test xs) ≡ remove_key test (keys_of xs)
  keys_without test [] = refl
  keys_without test (x ∷ xs) = go (test x.0) (keys_without test xs)
    where
      go : (b : Bool) → keys_of (without test xs) ≡ remove_key test (keys_of xs)
          → keys_of (cond b xs (x ∷ without test xs)) ≡ cond b (keys_of xs) (x.0 ∷ remove_key test (keys_of xs))
      go true e = refl
      go false e = ap (λ ks. x.0 ∷ ks) e

  pub keys_taken : (n : ℕ) (xs : List (K × V)) → keys_of (take n xs) ≡ take n (keys_of xs)
  keys_taken zero xs = refl
  keys_taken (suc n) [] = refl
  keys_taken (suc n) (x ∷ xs) = ap (λ ks. x.0 ∷ ks) (keys_taken n xs)

  pub there : (test : K → Bool) (xs : List (K × V)) (p : K × V) → lookup_entry test xs ≡ Some p → list_any test
      (keys_of xs) ≡ true
  there test [] p e = absurd (grind (arith, e))
  there test (x ∷ xs) p e = go (test x.0) e (there test xs p)
    where
      go : (b : Bool) → cond b (Some x) (lookup_entry test xs) ≡ Some p
          → (lookup_entry test xs ≡ Some p → list_any test (keys_of xs) ≡ true) → (b || list_any test (keys_of xs)) ≡
          true
      go true e later = refl
      go false e later = later e

  pub absent : (test : K → Bool) (xs : List (K × V)) → lookup_entry test xs ≡ None → list_any test (keys_of xs) ≡ false
  absent test [] e = refl
  absent test (x ∷ xs) e = go (test x.0) e (absent test xs)
    where
      go : (b : Bool) → cond b (Some x) (lookup_entry test xs) ≡ None
          → (lookup_entry test xs ≡ None → list_any test (keys_of xs) ≡ false) → (b || list_any test (keys_of xs)) ≡
          false
      go true e later = absurd (grind (arith, e))
      go false e later = later e

  pub value_there : (test : K → Bool) (xs : List (K × V)) (w : V) → lookup test xs ≡ Some w → (p : K × V) ×
      (lookup_entry test xs ≡ Some p)
  value_there test [] w e = absurd (grind (arith, e))
  value_there test (x ∷ xs) w e = go (test x.0) e (value_there test xs w)
    where
      go : (b : Bool) → cond b (Some x.1) (lookup test xs) ≡ Some w
          → (lookup test xs ≡ Some w → (p : K × V) × (lookup_entry test xs ≡ Some p))
          → (p : K × V) × (cond b (Some x) (lookup_entry test xs) ≡ Some p)
      go true e later = (x, refl)
      go false e later = later e

untrue : ◌≡◌ {A = Result Bool AllocError} (Ok true) (Ok false) → ⊥
untrue e = cc

pub same_count : (n : ℕ) → n < 2 ^ 64 → n ≡ count_up n 0
same_count n fits = omega (arith, fits)

module _ {K V S H : Type 0} (rules : Rules K V S) (hash_of : H → K → ℕ) where
  oldest_placed : (hash n : ℕ) (old new : State K V S H) → OldestEvicted rules hash n old new
      → new.counts.placed ≡ old.counts.placed
  oldest_placed hash zero old new e = ap (λ st. st.counts.placed) e
  oldest_placed hash (suc n) old new (before, more, none, leaves) =
      ap (λ st. st.counts.placed) leaves.is ∙ oldest_placed hash n old before more

  if_memory : (pair : K × V) (count spare moves : ℕ) (old : State K V S H) (outcome : Outcome) (new : State K V S H)
      → outcome ≡ placed → IsPlacedIfMemory rules pair count spare moves old outcome new
      → new.counts.placed ≡ count_up old.counts.placed 1
  if_memory pair count spare moves old placed new e h = ap (λ st. st.counts.placed) h.0.state
  if_memory pair count spare moves old refused new e h = absurd h
  if_memory pair count spare moves old no_memory new e h = absurd cc

  evicts_placed : (hash : ℕ) (pair : K × V) (old mid : State K V S H) (outcome : Outcome) (new : State K V S H)
      → outcome ≡ placed → Evicts rules hash pair old mid outcome new
      → new.counts.placed ≡ count_up mid.counts.placed 1
  evicts_placed hash pair old mid outcome new e (nothing_to_evict none is same) = absurd cc
  evicts_placed hash pair old mid outcome new e (finds_bucket n some small few left oldest fills is h) =
      ap (λ st. st.counts.placed) h.state ∙ ap (λ m. count_up m 1) (oldest_placed hash n mid left oldest)
  evicts_placed hash pair old mid outcome new e (rehashes some n more small few left oldest h) =
      if_memory pair _ _ _ left outcome new e h ∙ ap (λ m. count_up m 1) (oldest_placed hash n mid left oldest)

  cannot_placed : (old mid : State K V S H) → CannotGrow rules old mid → mid.counts.placed ≡ old.counts.placed
  cannot_placed old mid (no_target none same) = ap (λ st. st.counts.placed) same
  cannot_placed old mid (denied count bytes target denies same) = ap (λ st. st.counts.placed) same

  placed_counts : (pair : K × V) (old : State K V S H) (outcome : Outcome) (new : State K V S H) → outcome ≡ placed
      → Place rules hash_of pair old outcome new → new.counts.placed ≡ count_up old.counts.placed 1
  placed_counts pair old outcome new e (in_bucket few some fills is h) = ap (λ st. st.counts.placed) h.state
  placed_counts pair old outcome new e (rehashed none few why h) = if_memory pair _ _ _ old outcome new e h
  placed_counts pair old outcome new e (grown outgrown count bytes target grants h) = if_memory pair _ _ _ _ outcome
      new e h
  placed_counts pair old outcome new e (not_grown outgrown mid cannot evicts) =
      evicts_placed _ pair old mid outcome new e evicts ∙ ap (λ m. count_up m 1) (cannot_placed old mid cannot)

  module _ (offers : Offers K V S K) (eq : K → K → Bool) (key : K) (v : V) (old new : State K V S H) where
    pub insert_counts : old.counts.placed < 2 ^ 64 → (result : Result Bool AllocError) → IsOk result
        → (lookup_entry (eq key) old.pairs ≡ None → result ≡ Ok true)
        → Insert rules offers eq hash_of key v old result new
        → new.counts.placed ≡ count_up old.counts.placed (cond (is_in eq key (keys_of old.pairs)) 0 1)
    insert_counts fits result ok says (replaced pair found taken is leaves) =
        rw (there (eq key) old.pairs pair found) (ap (λ st. st.counts.placed) leaves.is ∙ same_count old.counts.placed fits)
    insert_counts fits result ok says (not_replaced pair found taken is leaves) =
        rw (there (eq key) old.pairs pair found) (ap (λ st. st.counts.placed) leaves.is ∙ same_count old.counts.placed fits)
    insert_counts fits result ok says (no_memory_to_admit none ran_out is same) = ok-not_err result ok is
    insert_counts fits result ok says (not_admitted none s gives is same) = absurd (untrue (sym (says none) ∙ is))
    insert_counts fits result ok says (admitted none s pair gives (ready, way, (placed, landed, place, settles))) =
        rw (absent (eq key) old.pairs none)
        (ap (λ st. st.counts.placed) settles.1.is ∙ placed_counts pair ready placed landed refl place
        ∙ ap (λ st. count_up st.counts.placed 1) way.is)
    insert_counts fits result ok says (admitted none s pair gives (ready, way, (refused, landed, place, settles))) =
        absurd (untrue (sym (says none) ∙ settles.0))
    insert_counts fits result ok says (admitted none s pair gives (ready, way, (no_memory, landed, place, settles))) =
        ok-not_err result ok settles.0
