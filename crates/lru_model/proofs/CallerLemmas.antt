-- For proofs of callers of a map.
--     read_back            if the value is not written, a get only brings the pair to the front
--     promoted-summed      a promotion keeps the sum of the costs
--     promoted-absent, demoted-absent      if the key is not there, nothing moves to the front or to the back
--     written-absent       if the key is not there, a write changes nothing
--     written-found        a look-up finds the value that was written through a get
--     read-all             if P holds of each pair, it does after a get whose value is not written
--     offers_of-keeps      a limiter that accepts pairs unchanged keeps their values
--     offers_of-determined the state and the arguments determine what this limiter does
--     offers_of-accepts    when this limiter accepts a pair of a new key
--     plain-grants, by_weight-grants, by_cost-grants                    these limiters permit every growth
--     plain-changes_none, by_weight-changes_none, by_cost-changes_none  these limiters change no removed pair
--     stored_key-same      if equal keys are the same, the stored key is the inserted key
--     stored-came          if equal keys are the same, an insert stores the pair unchanged
--     inserted-found       after an insert that returned true, a look-up finds the inserted value
--     inserted-only        after any insert, a look-up finds no other value
--     inserted-all         if P holds of each pair and of the inserted pair, it does after an insert
--     all-without          if P holds of each pair, it does after a removal
--     given-found          a search by a hash with a closure that tests a key returns the pair of that key
--     given-tag            this search returns only a pair whose key has a hash of the same tag
--     given-promoted       if the value is not written, this search only brings the pair to the front
--     none-found           if this search returns none, no pair of that key has the hash
--     empty_is_map         `IsMap` holds of a map without pairs and buckets
--     has_tables           there are tables for the pairs if there is a table for eight times as many
--     tables_of_next       or if there is a table for one pair more, and an entry takes a byte or more
--     shrink_contents      a shrink keeps the pairs and the limiter
--     usage_bytes          the usage of a table with buckets is `bytes_of`
--     value_removed        a `RemoveEntry` is a `Remove` that returns only the value
--     step_keeps_number    a `Step` changes a number only if a callback of the limiter does
--     step_stays_short     a `Step` keeps the map within its limit of length
--     any_is_map           each call leaves `IsMap`, if the table is sound
--     any_step_same        no call changes `hasher`, `max` or `entry_bytes`
--     lookup-entry, no_pair      `lookup` returns the value of the pair that `lookup_entry` returns
--     without_none         if no key is named, a removal changes nothing
--     length-front_pairs   a promotion keeps the number of pairs
pub use Rattle.lru_model.proofs.Theorems.KeySearches.{given-found, given-tag, none-found}
pub use Rattle.lru_model.proofs.States.EmptyMaps.{empty_is_map}
pub use Rattle.lru_model.proofs.States.LeavingPairs.{leaves_trans, length-without_first, length-without_last}
pub use Rattle.lru_model.proofs.States.Promotions.{promoted_sized, demoted_sized, promoted_is_map, length-front_pairs}
pub use Rattle.lru_model.proofs.States.SomeInsert.{some_insert}
pub use Rattle.lru_model.proofs.States.SomeUpdate.{some_update}
pub use Rattle.lru_model.proofs.States.SomePlace.{some_leave}
pub use Rattle.lru_model.proofs.States.SomeReservation.{cleared_sized, some_reservation}
pub use Rattle.lru_model.proofs.States.SomeShrink.{some_shrink}
pub use Rattle.lru_model.proofs.Theorems.Fronts.{found_named, without_none}
pub use Rattle.lru_model.proofs.PairLists.NamedPairs.{lookup-entry, no_pair}
pub use Rattle.lru_model.proofs.Theorems.Limits.{length-without}
pub use Rattle.lru_model.proofs.States.RemovedPairs.{value_removed}
pub use Rattle.lru_model.proofs.TableSizes.ReachedTables.{has_tables}
pub use Rattle.lru_model.proofs.Theorems.NextTables.{tables_of_next}
pub use Rattle.lru_model.proofs.TableSizes.Growth.{usage_bytes}
pub use Rattle.lru_model.proofs.Theorems.RunLimits.{step_keeps_number, step_stays_short}
pub use Rattle.lru_model.proofs.Theorems.Runs.{any_is_map, any_step_same}
pub use Rattle.lru_model.proofs.Theorems.StoringLimiters.{plain-changes_none, by_weight-changes_none}
pub use Rattle.lru_model.proofs.Theorems.StoringLimiters.{by_cost-changes_none, offers_of-keeps, offers_of-determined}
pub use Rattle.lru_model.proofs.Theorems.StoringLimiters.{offers_of-accepts, stored_key-same, stored-came}
pub use Rattle.lru_model.proofs.Theorems.Shrinks.{shrink_contents}
use Rattle.std.proofs.Common.{◌≡◌, ℕ, Bool, true, false, cond, List, [], ◌∷◌, ◌++◌, refl, sym, ap, ◌∙◌, subst}
use Rattle.std.proofs.Common.{Option, Some, None, Result, Ok, Err}
use Rattle.std.proofs.lemmas.List.{append-nil}
use Rattle.std.specs.Prelude.{IfSome, option_map, unwrap_or, option_to_list}
use Rattle.std.specs.Cmp.{IsEquivalence}
use Rattle.std.specs.List.{All}
use Rattle.std.specs.Map.{set_value}
use Rattle.std.proofs.lemmas.List.Elements.{All-nil, All-cons, All-head, All-tail}
use Rattle.std.proofs.lemmas.Map.Steps.{set_value_same}
use Rattle.std.proofs.lemmas.Option.{none-some}
use Rattle.std.specs.declared.alloc.AllocError.{AllocError}
use Rattle.lru_limits.specs.Rules.{Rules, Offers}
use Rattle.lru_limits.specs.Budget.{by_weight, by_cost}
use Rattle.lru_limits.specs.Stores.{plain}
use Rattle.lru_model.specs.Lists.{first, without_first, lookup, lookup_entry, without, after, front, back}
use Rattle.lru_model.specs.Lists.{place_of, other_places, front_places, back_places}
use Rattle.lru_model.specs.State.{State}
use Rattle.lru_model.specs.Calls.{promoted, demoted, written}
use Rattle.lru_model.specs.Exact.{AlwaysGrants}
use Rattle.lru_model.specs.Theorems.{SaysWhether, Stores, KeepsValues, IsSummed, EvictsOldest, with_pair, with_none}
use Rattle.lru_model.specs.Theorems.{without_one}
use Rattle.lru_model.proofs.Theorems.InsertAnswers.{insert_found}
use Rattle.lru_model.proofs.Theorems.Sums.{total-is, total-front}

module _ {K V : Type 0} (names : K → Bool) where
  lookup-front : (xs : List (K × V)) → lookup names (front names xs) ≡ lookup names xs
  lookup-front xs = go (lookup_entry names xs) refl
    where
      go : (o : Option (K × V)) → lookup_entry names xs ≡ o
          → lookup names (after o (without names xs)) ≡ lookup names xs
      go None e = ap (lookup names) (without_none names xs e)
      go (Some p) e =
          ap (λ b. cond b (Some p.1) (lookup names (without names xs))) (found_named names xs p e)
          ∙ sym (lookup-entry names xs ∙ ap (option_map (λ p. p.1)) e)

  module _ (xs : List (K × V)) (none : lookup names xs ≡ None) where
    no_entry : lookup_entry names xs ≡ None
    no_entry = go (lookup_entry names xs) refl
      where
        go : (o : Option (K × V)) → lookup_entry names xs ≡ o → o ≡ None
        go None e = refl
        go (Some p) e = absurd (none-some p.1 (sym none ∙ lookup-entry names xs ∙ ap (option_map (λ p. p.1)) e))

    front-none : front names xs ≡ xs
    front-none = ap (λ o. after o (without names xs)) no_entry ∙ without_none names xs no_entry

    back-none : back names xs ≡ xs
    back-none = ap (λ o. without names xs ++ option_to_list o) no_entry ∙ append-nil (without names xs)
        ∙ without_none names xs no_entry

  no_place : (xs : List (K × V)) (places : List ℕ) → lookup names xs ≡ None → place_of names xs places ≡ None
  no_place [] places none = refl
  no_place (x ∷ xs) [] none = refl
  no_place (x ∷ xs) (b ∷ places) none = go (names x.0) none (λ h. no_place xs places h)
    where
      go : (y : Bool) → cond y (Some x.1) (lookup names xs) ≡ None
          → (lookup names xs ≡ None → place_of names xs places ≡ None)
          → cond y (Some b) (place_of names xs places) ≡ None
      go true e r = absurd cc
      go false e r = r e

  all_others : (xs : List (K × V)) (places : List ℕ) → lookup names xs ≡ None → other_places names xs places ≡ places
  all_others [] places none = refl
  all_others (x ∷ xs) [] none = refl
  all_others (x ∷ xs) (b ∷ places) none = go (names x.0) none (λ h. all_others xs places h)
    where
      go : (y : Bool) → cond y (Some x.1) (lookup names xs) ≡ None
          → (lookup names xs ≡ None → other_places names xs places ≡ places)
          → cond y places (b ∷ other_places names xs places) ≡ b ∷ places
      go true e r = absurd cc
      go false e r = ap (λ bs. b ∷ bs) (r e)

  module _ (xs : List (K × V)) (places : List ℕ) (none : lookup names xs ≡ None) where
    front_places-none : front_places names xs places ≡ places
    front_places-none = (λ i. after (no_place xs places none i) (all_others xs places none i))

    back_places-none : back_places names xs places ≡ places
    back_places-none = (λ i. all_others xs places none i ++ option_to_list (no_place xs places none i))
        ∙ append-nil places

  set-none : (xs : List (K × V)) (w : V) → lookup names xs ≡ None → set_value names xs w ≡ xs
  set-none [] w none = refl
  set-none (x ∷ xs) w none = go (names x.0) none (set-none xs w)
    where
      go : (b : Bool) → cond b (Some x.1) (lookup names xs) ≡ None
          → (lookup names xs ≡ None → set_value names xs w ≡ xs)
          → cond b ((x.0, w) ∷ xs) (x ∷ set_value names xs w) ≡ x ∷ xs
      go true e r = absurd cc
      go false e r = ap (λ ys. x ∷ ys) (r e)

  not-found : (xs : List (K × V)) → lookup_entry names xs ≡ None → (w : V) → lookup names xs ≡ Some w → ⊥
  not-found xs none w found = none-some w (sym (ap (option_map (λ p. p.1)) none) ∙ sym (lookup-entry names xs) ∙ found)

  lookup-set : (xs : List (K × V)) (v w : V) → lookup names xs ≡ Some v → lookup names (set_value names xs w) ≡ Some w
  lookup-set [] v w e = absurd (none-some v e)
  lookup-set (x ∷ xs) v w e = go (names x.0) refl e (lookup-set xs v w)
    where
      go : (b : Bool) → names x.0 ≡ b → cond b (Some x.1) (lookup names xs) ≡ Some v
          → (lookup names xs ≡ Some v → lookup names (set_value names xs w) ≡ Some w)
          → lookup names (cond b ((x.0, w) ∷ xs) (x ∷ set_value names xs w)) ≡ Some w
      go true n e later = rw n refl
      go false n e later = rw n (later e)

module _ {X : Type 0} (P : X → Type 0) where
  all-front : (xs rest : List X) → All P (xs ++ rest) → All P xs
  all-front [] rest h = All-nil P
  all-front (x ∷ xs) rest h =
      All-cons P x xs (All-head P x (xs ++ rest) h) (all-front xs rest (All-tail P x (xs ++ rest) h))

module _ {K V : Type 0} (P : K × V → Type 0) (names : K → Bool) where
  pub all-without : (xs : List (K × V)) → All P xs → All P (without names xs)
  all-without [] h = h
  all-without (x ∷ xs) h = go (names x.0) (all-without xs (All-tail P x xs h))
    where
      go : (b : Bool) → All P (without names xs) → All P (cond b xs (x ∷ without names xs))
      go true others = All-tail P x xs h
      go false others = All-cons P x (without names xs) (All-head P x xs h) others

  found-all : (xs : List (K × V)) (p : K × V) → lookup_entry names xs ≡ Some p → All P xs → P p
  found-all [] p e h = absurd (none-some p e)
  found-all (x ∷ xs) p e h = go (names x.0) e (λ later. found-all xs p later (All-tail P x xs h))
    where
      go : (b : Bool) → cond b (Some x) (lookup_entry names xs) ≡ Some p → (lookup_entry names xs ≡ Some p → P p) → P p
      go true e later = subst P (ap (λ o. unwrap_or o x) e) (All-head P x xs h)
      go false e later = later e

  front-all : (xs : List (K × V)) → All P xs → All P (front names xs)
  front-all xs h = go (lookup_entry names xs) refl
    where
      go : (o : Option (K × V)) → lookup_entry names xs ≡ o → All P (after o (without names xs))
      go None e = all-without xs h
      go (Some p) e = All-cons P p (without names xs) (found-all xs p e h) (all-without xs h)

  pub inserted-all : {refuses : K × V → Type 0} (old new : List (K × V)) → EvictsOldest names refuses
      (λ pair. pair ∷ without names old) old new → All P old → ((p : K × V) → names p.0 ≡ true → lookup names new ≡ Some p.1 → P p) → All P new
  inserted-all old new (with_pair newest named (rest, e)) h one = go new e one
    where
      go : (xs : List (K × V)) → newest ∷ without names old ≡ xs ++ rest
          → ((p : K × V) → names p.0 ≡ true → lookup names xs ≡ Some p.1 → P p) → All P xs
      go [] e one = All-nil P
      go (x ∷ xs) e one =
          let same : newest ≡ x = ap (λ o. unwrap_or o newest) (ap first e) in
          let passes : names x.0 ≡ true = subst (λ y. names y.0 ≡ true) same named in
          let others : All P (xs ++ rest) = subst (All P) (ap without_first e) (all-without old h) in
          All-cons P x xs (one x passes (rw passes refl)) (all-front P xs rest others)
  inserted-all old new (with_none absent (rest, e)) h one = all-front P new rest (subst (All P) e h)
  inserted-all old new (without_one pair found refused is) h one = subst (All P) (sym is) (all-without old h)

pub plain-grants : (K V : Type 0) {S : Type 0} (over : S → ℕ → Bool)
    → AlwaysGrants (plain {K = K} {V = V} over (λ _ _. true))
plain-grants K V over = λ s bytes. (refl, refl)

pub by_weight-grants : {K V : Type 0} (weight : K → V → ℕ) → AlwaysGrants (by_weight weight)
by_weight-grants weight = λ s bytes. (refl, refl)

pub by_cost-grants : (K : Type 0) {V : Type 0} (cost : V → ℕ) → AlwaysGrants (by_cost {K = K} cost)
by_cost-grants K {V} cost = by_weight-grants (λ (k : K) (v : V). cost v)

module _ {K V S H I : Type 0} {offers : Offers K V S I} {v : V} (keeps : KeepsValues offers)
    (rules : Rules K V S) (names : I → K → Bool) (i : I) (old new : State K V S H) where
  pub inserted-found : (result : Result Bool AllocError) → result ≡ Ok true → SaysWhether rules (names i) result new
      → (result ≡ Ok true → IfSome (first new.pairs) (Stores rules offers names i v old))
      → lookup (names i) new.pairs ≡ Some v
  inserted-found result notified says stores =
      let newest = subst (λ r. SaysWhether rules (names i) r new) notified says in
      insert_found rules offers names i v old keeps new newest.0 (stores notified)

  pub inserted-only : (result : Result Bool AllocError) → SaysWhether rules (names i) result new
      → (result ≡ Ok true → IfSome (first new.pairs) (Stores rules offers names i v old))
      → (w : V) → lookup (names i) new.pairs ≡ Some w → w ≡ v
  inserted-only (Ok true) says stores w found =
      ap (λ o. unwrap_or o w) (sym found ∙ inserted-found (Ok true) refl says stores)
  inserted-only (Ok false) says stores w found = absurd (not-found (names i) new.pairs says w found)
  inserted-only (Err e) says stores w found = absurd (not-found (names i) new.pairs says w found)

module _ {K V S H : Type 0} (names : K → Bool) (st : State K V S H) where
  pub read_back : (value : V) → lookup names st.pairs ≡ Some value
      → written names value (promoted names st) ≡ promoted names st
  read_back value found = ap (λ pairs. record (promoted names st) { pairs = pairs })
      (set_value_same names (front names st.pairs) value (lookup-front names st.pairs ∙ found))

  pub promoted-summed : (cost : K → V → ℕ) (account : S → ℕ) → IsSummed cost account st
      → IsSummed cost account (promoted names st)
  promoted-summed cost account summed =
      let f = λ (p : K × V). cost p.0 p.1 in
      summed ∙ sym (total-is f st.pairs) ∙ sym (total-front f names st.pairs) ∙ total-is f (front names st.pairs)

  pub promoted-absent : lookup names st.pairs ≡ None → promoted names st ≡ st
  promoted-absent none = λ i.
      record st {
        pairs = front-none names st.pairs none i;
        table = record st.table { places = front_places-none names st.pairs st.table.places none i };
      }

  pub demoted-absent : lookup names st.pairs ≡ None → demoted names st ≡ st
  demoted-absent none = λ i.
      record st {
        pairs = back-none names st.pairs none i;
        table = record st.table { places = back_places-none names st.pairs st.table.places none i };
      }

  pub written-absent : (value : V) → lookup names st.pairs ≡ None → written names value st ≡ st
  written-absent value none = ap (λ pairs. record st { pairs = pairs }) (set-none names st.pairs value none)

  pub written-found : (v w : V) → lookup names st.pairs ≡ Some v
      → lookup names (written names w (promoted names st)).pairs ≡ Some w
  written-found v w found = lookup-set names (front names st.pairs) v w (lookup-front names st.pairs ∙ found)

  pub read-all : (P : K × V → Type 0) (v : V) → lookup names st.pairs ≡ Some v → All P st.pairs
      → All P (written names v (promoted names st)).pairs
  read-all P v found h = subst (λ s. All P s.pairs) (sym (read_back v found)) (front-all P names st.pairs h)

pub given-promoted : {K V S H : Type 0} {eq : K → K → Bool} (laws : IsEquivalence eq) (key : K) (st : State K V S H)
    (pair : K × V) → lookup_entry (eq key) st.pairs ≡ Some pair
    → written (eq pair.0) pair.1 (promoted (eq pair.0) st) ≡ promoted (eq key) st
given-promoted {eq = eq} laws key st pair found =
    let same : eq key ≡ eq pair.0 = λ i k. laws.congr key pair.0 k (found_named (eq key) st.pairs pair found) i in
    subst (λ names. written names pair.1 (promoted names st) ≡ promoted (eq key) st) same
    (read_back (eq key) st pair.1 (lookup-entry (eq key) st.pairs ∙ ap (option_map (λ p. p.1)) found))
