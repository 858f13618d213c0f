use Rattle.std.proofs.Common.{◌≡◌, ℕ, Bool, true, false, List, [], ◌∷◌, ◌++◌, reverse, Some, None, Result, Ok}
use Rattle.std.proofs.Common.{refl, sym, ap, ◌∙◌, subst, append-nil, ◌⊎◌, inl, inr, cond, arith}
use Rattle.std.proofs.lemmas.List.{reverse-append, reverse-reverse}
use Rattle.std.proofs.lemmas.List.Elements.{Contains-append_left, Contains-append_right, Contains-append_cases}
use Rattle.std.proofs.lemmas.List.Elements.{Contains-push_cases}
use Rattle.std.proofs.lemmas.List.Sorted.{Contains-permutation, IsPermutation-reverse}
use Rattle.std.specs.List.{Contains}
use Rattle.std.specs.Prelude.{IsPermutation}
use Rattle.lru_model.specs.Theorems.{Stores, left, given}
use Rattle.lru_model.proofs.Theorems.Fronts.{without_none}
use Rattle.std.proofs.lemmas.Bool.{false≢true}
use Rattle.std.specs.declared.alloc.AllocError.{AllocError}
use Rattle.lru_limits.specs.Rules.{Rules, Offers}
use Rattle.lru_model.specs.Lists.{last, lookup_entry, without, without_last}
use Rattle.lru_model.specs.State.{State, Contents, contents, notified_of}
use Rattle.lru_model.specs.Place.{Outcome, placed, refused, no_memory, unstored}
use Rattle.lru_model.specs.Inserts.{replaced, not_replaced, no_memory_to_admit, not_admitted, admitted, MayGive}
use Rattle.lru_model.specs.Inserts.{Settles}
use Rattle.lru_model.specs.Callbacks.{noting, noted, InsertPasses}
use Rattle.lru_limits.specs.Laws.{ChangesNoPair}
use Rattle.lru_model.specs.Kept.{LosesNothing, stored, value_rejected, nothing_to_store, pair_not_stored}
use Rattle.lru_model.proofs.States.Outcomes.{ok-not_err, same_kept}
use Rattle.lru_model.proofs.Theorems.Moves.{KeepsWay, left_are, leaves_keep, make_room_keeps, trim_keeps}
use Rattle.lru_model.proofs.Theorems.Ways.{Lands, place_lands}

module _ {K V S : Type 0} where
  abbrev all_of : Contents K V (S × List (K × V)) → List (K × V)
  all_of c = c.pairs ++ reverse c.limiter.1

module _ {K V S : Type 0} (rules : Rules K V S) (leaves : ChangesNoPair rules) where
  notified_same : (s : S) (pair : K × V)
      → ((rules.on_removed s pair.0 pair.1).key, (rules.on_removed s pair.0 pair.1).value) ≡ pair
  notified_same s pair = λ j. (leaves.key s pair.0 pair.1 j, leaves.value s pair.0 pair.1 j)

  noted_same : (list : List (K × V)) (s : S) (pair : K × V)
      → list ++ ((rules.on_removed s pair.0 pair.1).key, (rules.on_removed s pair.0 pair.1).value) ∷ []
      ≡ list ++ pair ∷ []
  noted_same list s pair = ap (λ p. list ++ p ∷ []) (notified_same s pair)

  pop_all : (pairs : List (K × V)) (s : S × List (K × V))
      → without_last pairs ++ reverse (notified_of (noting rules) (last pairs) s).1 ≡ pairs ++ reverse s.1
  pop_all [] s = refl
  pop_all (x ∷ []) s = ap reverse (noted_same s.1 s.0 x) ∙ reverse-append s.1 (x ∷ [])
  pop_all (x ∷ y ∷ ys) s = ap (λ zs. x ∷ zs) (pop_all (y ∷ ys) s)

  way_all : KeepsWay (noting rules) (λ c d. all_of d ≡ all_of c)
  way_all = record {
    self = λ c. refl;
    trans = λ p q. q ∙ p;
    asked = λ bytes c. refl;
    popped = λ c. pop_all c.pairs c.limiter;
  }

module _ {K V S H I : Type 0} (rules : Rules K V S) (offers : Offers K V S I) (names : I → K → Bool)
    (leaves : ChangesNoPair rules) (i : I) (v : V) (old : State K V S H)
    (result : Result Bool AllocError) (passed : List (K × V)) (new : State K V S H) where
  abbrev EndsSo : Type 0
  EndsSo = LosesNothing rules offers names i v old result passed new

  turned : lookup_entry (names i) old.pairs ≡ None → (s : S) (pair : K × V)
      → MayGive rules offers names i v (contents old) s (Some pair) → (result ≡ Ok true → ⊥)
      → (mid : State K V (S × List (K × V)) H) → all_of (contents mid) ≡ old.pairs
      → noted passed new ≡ unstored (noting rules) pair mid → EndsSo
  turned a s pair n untrue mid same e = pair_not_stored a s pair n untrue mid.limiter.1
      (ap (λ st. st.limiter.1) e ∙ noted_same rules leaves mid.limiter.1 mid.limiter.0 pair)
      (ap (λ st. st.pairs ++ reverse mid.limiter.1) e ∙ same)

  settles : lookup_entry (names i) old.pairs ≡ None → (s : S) (pair : K × V)
      → MayGive rules offers names i v (contents old) s (Some pair)
      → (outcome : Outcome) (ready mid landed : State K V (S × List (K × V)) H) → all_of (contents mid) ≡ old.pairs
      → Lands (noting rules) (λ _. Unit {0}) pair ready outcome mid landed
      → Settles (noting rules) outcome landed result (noted passed new) → EndsSo
  settles a s pair n placed ready mid landed same l t = stored pair (given a s n) t.0
      (leaves_keep (λ c d. all_of d ≡ all_of c) landed _ (noted passed new) t.1
      (trim_keeps (noting rules) _ (way_all rules leaves) (contents landed))
      ∙ ap (λ st. all_of (contents st)) l.is.state
      ∙ ap (λ xs. pair ∷ xs) (same ∙ sym (without_none (names i) old.pairs a)))
  settles a s pair n refused ready mid landed same l t =
      turned a s pair n (λ e. false≢true (same_kept false true (sym t.0 ∙ e))) mid same (t.1 ∙ l.1)
  settles a s pair n no_memory ready mid landed same l t =
      turned a s pair n (λ e. ok-not_err result (rw e refl) t.0) mid same (t.1 ∙ l)

  pub loses_nothing : {hash_of : H → K → ℕ} → InsertPasses rules offers names hash_of i v old result passed new → EndsSo
  loses_nothing (replaced was found y r l) = stored _ (left was found y refl) r
      (ap all_of (left_are _ _ (noted passed new) l)
      ∙ trim_keeps (noting rules) _ (way_all rules leaves) _ ∙ append-nil _)
  loses_nothing (not_replaced was found y r l) = value_rejected was found y r
      (ap (λ st. st.limiter.1) l.is ∙ noted_same rules leaves [] _ _)
      (ap (λ st. st.pairs) l.is)
  loses_nothing (no_memory_to_admit a k r e) = nothing_to_store a (inl (k, r)) (ap (λ st. st.limiter.1) e)
      (ap (λ st. st.pairs) e)
  loses_nothing (not_admitted a s n r e) = nothing_to_store a (inr (s.0, n.0, r)) (ap (λ st. st.limiter.1) e ∙ n.1)
      (ap (λ st. st.pairs) e)
  loses_nothing {hash_of} (admitted a s pair n (ready, l, (outcome, landed, p, t))) =
      let m = place_lands (noting rules) _ (way_all rules leaves) (λ _. Unit {0}) hash_of pair ready tt outcome landed p
      in settles a s.0 pair n.0 outcome ready m.mid landed
      (m.way ∙ ap all_of (left_are _ _ ready l)
      ∙ make_room_keeps (noting rules) _ (way_all rules leaves) (record { pairs = old.pairs; limiter = s })
      ∙ ap (λ list. old.pairs ++ reverse list) n.1 ∙ append-nil old.pairs) m.lands t

contains_without : {K V : Type 0} (names : K → Bool) (p : K × V) → names p.0 ≡ false → (xs : List (K × V))
    → Contains xs p → Contains (without names xs) p
contains_without names p other [] has = has
contains_without names p other (x ∷ xs) has = go (names x.0) refl (contains_without names p other xs)
    (Contains-append_cases (x ∷ []) xs p has)
  where
    go : (b : Bool) → names x.0 ≡ b → (Contains xs p → Contains (without names xs) p)
        → Contains (x ∷ []) p ⊎ Contains xs p → Contains (cond b xs (x ∷ without names xs)) p
    go true named later (inl here) = elim (Contains-push_cases [] x p here) [
      | inl none ↦ absurd (omega (arith, none.1))
      | inr same ↦ absurd (false≢true (sym other ∙ ap (λ y. names y.0) (sym same) ∙ named))
    ]
    go true named later (inr there) = there
    go false named later (inl here) = Contains-append_left (x ∷ []) (without names xs) p here
    go false named later (inr there) = Contains-append_right (x ∷ []) (without names xs) p (later there)

module _ {K V S H I : Type 0} {rules : Rules K V S} {offers : Offers K V S I} {names : I → K → Bool} {i : I} {v : V}
    {old : State K V S H} {result : Result Bool AllocError} {passed : List (K × V)} {new : State K V S H} where
  pub stored_first : LosesNothing rules offers names i v old result passed new → result ≡ Ok true
      → (pair : K × V) × Stores rules offers names i v old pair
      × (new.pairs ++ reverse passed ≡ pair ∷ without (names i) old.pairs)
  stored_first (stored pair stores r e) q = (pair, stores, e)
  stored_first (value_rejected was found y r h e) q = absurd (false≢true (same_kept false true (sym r ∙ q)))
  stored_first (nothing_to_store a (inl (k, r)) h e) q = ok-not_err result (rw q refl) r
  stored_first (nothing_to_store a (inr (s, n, r)) h e) q = absurd (false≢true (same_kept false true (sym r ∙ q)))
  stored_first (pair_not_stored a s pair n untrue evicted h e) q = absurd (untrue q)

  pub others_kept : LosesNothing rules offers names i v old result passed new → (p : K × V) → names i p.0 ≡ false
      → Contains old.pairs p → Contains new.pairs p ⊎ Contains passed p
  others_kept h p other has = go h
    where
      in_both : (xs list : List (K × V)) → Contains (xs ++ reverse list) p → Contains xs p ⊎ Contains list p
      in_both xs list both = elim (Contains-append_cases xs (reverse list) p both) [
        | inl here ↦ inl here
        | inr there ↦ inr
            (Contains-permutation (reverse list) list p
            (subst (IsPermutation (reverse list)) (reverse-reverse list) (IsPermutation-reverse (reverse list))) there)
      ]

      left_over : Contains (without (names i) old.pairs) p
      left_over = contains_without (names i) p other old.pairs has

      go : LosesNothing rules offers names i v old result passed new → Contains new.pairs p ⊎ Contains passed p
      go (stored pair stores r e) = in_both new.pairs passed
          (subst (λ xs. Contains xs p) (sym e)
          (Contains-append_right (pair ∷ []) (without (names i) old.pairs) p left_over))
      go (value_rejected was found y r h e) = inl (subst (λ xs. Contains xs p) (sym e) left_over)
      go (nothing_to_store a why h e) = inl (subst (λ xs. Contains xs p) (sym e) has)
      go (pair_not_stored a s pair n untrue evicted h e) =
          elim (in_both new.pairs evicted (subst (λ xs. Contains xs p) (sym e) has)) [
            | inl here ↦ inl here
            | inr there ↦ inr
                (subst (λ xs. Contains xs p) (sym h) (Contains-append_left evicted (pair ∷ []) p there))
          ]
