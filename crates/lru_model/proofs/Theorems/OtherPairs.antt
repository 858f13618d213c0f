-- Calls leave the newest of the pairs whose keys they do not name.
use Rattle.std.proofs.Common.{◌≡◌, ℕ, Bool, true, false, cond, not, List, [], ◌∷◌, ◌++◌, Option, Some, None}
use Rattle.std.proofs.Common.{refl, sym, ap, ◌∙◌, subst}
use Rattle.std.specs.Prelude.{Contains, map, option_to_list}
use Rattle.std.specs.Map.{set_value}
use Rattle.std.proofs.lemmas.List.Elements.{filter-append}
use Rattle.std.proofs.lemmas.List.{append-nil}
use Rattle.lru_limits.specs.Laws.{IsLookup, IsInsertion}
use Rattle.lru_limits.specs.Rules.{Rules, Offers}
use Rattle.lru_model.specs.Lists.{IsFront, lookup_entry, without, set_entry, front, back, after}
use Rattle.lru_model.specs.Runs.{inserts, updates, gets, demotes, removes, pops_oldest, pops_newest}
use Rattle.lru_model.specs.Runs.{drains, clears}
use Rattle.lru_model.specs.Runs.{reserves, shrinks, trims, retains, AnyStep, calls, writes, sets_limiter, AreAmong}
use Rattle.lru_model.specs.Runs.{NamesOnly, StepAmong}
use Rattle.lru_model.specs.Runs.{Run, ends, goes_on}
use Rattle.lru_model.specs.Retains.{retained}
use Rattle.lru_model.specs.State.{State, contents}
use Rattle.lru_model.specs.Theorems.{EvictsOldest, with_pair, with_none, without_one, others}
use Rattle.lru_model.proofs.Theorems.Reservations.{reserved_list}
use Rattle.lru_model.proofs.Theorems.Fronts.{insert_evicts, update_evicts, front_same, front_self, front_trans}
use Rattle.lru_model.proofs.Theorems.Fronts.{front_trim, front_without_last, found_named}
use Rattle.lru_model.proofs.PairLists.Members.{Contains-here, Contains-later}
use Rattle.lru_model.proofs.Theorems.Shrinks.{shrunk_list}

module _ {K V : Type 0} (test : K → Bool) where
  front_others : (xs ys : List (K × V)) → IsFront xs ys → IsFront (others test xs) (others test ys)
  front_others xs ys f = (
    others test f.0,
    ap (others test) f.1
        ∙ filter-append (λ (pair : K × V). not (test pair.0)) xs f.0,
  )

  others_same : (xs ys : List (K × V)) → xs ≡ ys → IsFront (others test xs) (others test ys)
  others_same xs ys e = front_same (ap (others test) e)

  others_behind : (pair : K × V) (xs : List (K × V)) → test pair.0 ≡ true → others test (pair ∷ xs) ≡ others test xs
  others_behind pair xs passes = rw passes refl

  others_retained : {S : Type 0} (rules : Rules K V S) (asked : List ((K × V) × Bool)) (s : S)
      → ((pair : K × V) → Contains asked (pair, false) → test pair.0 ≡ true)
      → others test (retained rules asked s).pairs ≡ others test (map (λ one. one.0) asked)
  others_retained rules [] s passes = refl
  others_retained rules ((pair, true) ∷ older) s passes = ap (λ l. cond (not (test pair.0)) (pair ∷ l) l)
      (others_retained rules older s (λ p w. passes p (Contains-later (pair, true) (p, false) older w)))
  others_retained rules ((pair, false) ∷ older) s passes =
      others_retained rules older s (λ p w. passes p (Contains-later (pair, false) (p, false) older w))
      ∙ sym (others_behind pair (map (λ one. one.0) older) (passes pair (Contains-here (pair, false) older)))

  module _ (names : K → Bool) (among : AreAmong names test) where
    others_without : (xs : List (K × V)) → others test (without names xs) ≡ others test xs
    others_without [] = refl
    others_without (x ∷ xs) = go (names x.0) refl (others_without xs)
      where
        go : (b : Bool) → names x.0 ≡ b → others test (without names xs) ≡ others test xs
            → others test (cond b xs (x ∷ without names xs)) ≡ others test (x ∷ xs)
        go true e h = sym (others_behind x xs (among x.0 e))
        go false e h = ap (λ l. cond (not (test x.0)) (x ∷ l) l) h

    others_front : (xs : List (K × V)) → others test (front names xs) ≡ others test xs
    others_front xs = go (lookup_entry names xs) refl ∙ others_without xs
      where
        go : (found : Option (K × V)) → lookup_entry names xs ≡ found
            → others test (after found (without names xs)) ≡ others test (without names xs)
        go None e = refl
        go (Some pair) e = others_behind pair (without names xs) (among pair.0 (found_named names xs pair e))

    others_back : (xs : List (K × V)) → others test (back names xs) ≡ others test xs
    others_back xs = filter-append (λ (pair : K × V). not (test pair.0)) (without names xs)
        (option_to_list (lookup_entry names xs))
        ∙ ap (λ l. others test (without names xs) ++ l) (go (lookup_entry names xs) refl)
        ∙ append-nil (others test (without names xs)) ∙ others_without xs
      where
        go : (found : Option (K × V)) → lookup_entry names xs ≡ found → others test (option_to_list found) ≡ []
        go None e = refl
        go (Some pair) e = others_behind pair [] (among pair.0 (found_named names xs pair e))

    others_set : (q : K × V) → names q.0 ≡ true → (xs : List (K × V))
        → others test (set_entry names q xs) ≡ others test xs
    others_set q named [] = refl
    others_set q named (x ∷ xs) = go (names x.0) refl (others_set q named xs)
      where
        go : (b : Bool) → names x.0 ≡ b → others test (set_entry names q xs) ≡ others test xs
            → others test (cond b (q ∷ xs) (x ∷ set_entry names q xs)) ≡ others test (x ∷ xs)
        go true e h = others_behind q xs (among q.0 named) ∙ sym (others_behind x xs (among x.0 e))
        go false e h = ap (λ l. cond (not (test x.0)) (x ∷ l) l) h

    others_written : (xs : List (K × V)) (value : V) → others test (set_value names xs value) ≡ others test xs
    others_written [] value = refl
    others_written (x ∷ xs) value = go (names x.0) refl (others_written xs value)
      where
        go : (b : Bool) → names x.0 ≡ b → others test (set_value names xs value) ≡ others test xs
            → others test (cond b ((x.0, value) ∷ xs) (x ∷ set_value names xs value)) ≡ others test (x ∷ xs)
        go true e h = others_behind (x.0, value) xs (among x.0 e) ∙ sym (others_behind x xs (among x.0 e))
        go false e h = ap (λ l. cond (not (test x.0)) (x ∷ l) l) h

    evicts_others : {refuses : K × V → Type 0} (storing : K × V → List (K × V)) (old new : List (K × V))
        → ((pair : K × V) → names pair.0 ≡ true → others test (storing pair) ≡ others test old)
        → EvictsOldest names refuses storing old new → IsFront (others test new) (others test old)
    evicts_others storing old new same (with_pair pair named f) =
        subst (IsFront (others test new)) (same pair named) (front_others new (storing pair) f)
    evicts_others storing old new same (with_none absent f) = front_others new old f
    evicts_others storing old new same (without_one pair found r e) =
        front_same (ap (others test) e ∙ others_without old)

module _ {K V S H I : Type 0} {rules : Rules K V S} {offers : Offers K V S I} {names : I → K → Bool}
    {hash_of : H → K → ℕ} {eq : K → K → Bool} {query_input : I → List (List ℕ)} {key_input : K → List (List ℕ)}
    (looks_up : IsLookup names eq query_input key_input) (laws : IsInsertion names eq offers) (test : K → Bool) where
  pub step_keeps_newest : (old new : State K V S H) (step : AnyStep rules offers names hash_of old new)
      → NamesOnly rules offers names hash_of test old new step → IsFront (others test new.pairs) (others test old.pairs)
  step_keeps_newest old new (calls (inserts key value result h)) among =
      evicts_others test (names key) among (λ pair. pair ∷ without (names key) old.pairs) old.pairs new.pairs
      (λ pair named. others_behind test pair _ (among pair.0 named) ∙ others_without test (names key) among old.pairs)
      (insert_evicts looks_up laws key value old result new h)
  step_keeps_newest old new (calls (updates key value result h)) among =
      evicts_others test (names key) among (λ pair. set_entry (names key) pair old.pairs) old.pairs new.pairs
      (λ pair named. others_set test (names key) among pair named old.pairs)
      (update_evicts looks_up laws key value old result new h)
  step_keeps_newest old new (calls (gets named e)) among =
      front_same (ap (λ st. others test st.pairs) e ∙ others_front test named among old.pairs)
  step_keeps_newest old new (calls (demotes named e)) among =
      front_same (ap (λ st. others test st.pairs) e ∙ others_back test named among old.pairs)
  step_keeps_newest old new (calls (removes named result h)) among =
      front_same (ap (λ st. others test st.pairs) h.state.is ∙ others_without test named among old.pairs)
  step_keeps_newest old new (calls (pops_oldest result h)) among =
      front_trans _ (others_same test new.pairs _ (ap (λ st. st.pairs) h.state.is))
      (front_others test _ old.pairs (front_without_last old.pairs))
  step_keeps_newest old new (calls (pops_newest result h)) among = absurd among
  step_keeps_newest old new (calls (drains newest oldest result h)) among =
      subst (λ xs. IsFront (others test xs) (others test old.pairs)) (sym (ap (λ st. st.pairs) h.state.2))
      (others test old.pairs, refl)
  step_keeps_newest old new (calls (clears e)) among =
      subst (λ xs. IsFront (others test xs) (others test old.pairs)) (sym (ap (λ st. st.pairs) e))
      (others test old.pairs, refl)
  step_keeps_newest old new (calls (reserves n result h)) among =
      others_same test new.pairs old.pairs (reserved_list rules n old result new h).0
  step_keeps_newest old new (calls (shrinks result h)) among =
      others_same test new.pairs old.pairs (shrunk_list old result new h).0
  step_keeps_newest old new (calls (trims h)) among =
      front_trans _ (others_same test new.pairs _ (ap (λ st. st.pairs) h.is))
      (front_others test _ old.pairs (front_trim rules (contents old)))
  step_keeps_newest old new (calls (retains asked each h)) among =
      front_same (ap (λ st. others test st.pairs) h.is ∙ others_retained test rules asked old.limiter among
      ∙ ap (others test) each)
  step_keeps_newest old new (writes named value e) among =
      front_same (ap (λ st. others test st.pairs) e ∙ others_written test named among old.pairs value)
  step_keeps_newest old new (sets_limiter s e) among = others_same test new.pairs old.pairs (ap (λ st. st.pairs) e)

  pub run_keeps_newest : (new old : State K V S H) → Run (StepAmong rules offers names hash_of test) new old
      → IsFront (others test new.pairs) (others test old.pairs)
  run_keeps_newest new old ends = front_self (others test new.pairs)
  run_keeps_newest new old (goes_on mid step sized run) =
      front_trans _ (run_keeps_newest new mid run) (step_keeps_newest old mid step.0 step.1)
