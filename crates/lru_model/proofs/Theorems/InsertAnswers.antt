use Rattle.std.proofs.Common.{None, ◌≡◌, ℕ, zero, suc, ◌⊎◌, inl, inr, Bool, true, false, cond, not, List, [], ◌∷◌}
use Rattle.std.proofs.Common.{length, Result, Ok, Err, refl, sym, ap, ◌∙◌, subst, arith}
use Rattle.std.proofs.lemmas.Bool.{false≢true, true≢false, not-true}
use Rattle.std.specs.Prelude.{IsErr, Some, IfSome}
use Rattle.std.specs.declared.alloc.AllocError.{AllocError}
use Rattle.std.proofs.lemmas.List.{nil_from_length}
use Rattle.lru_model.proofs.PairLists.Emptiness.{empty-length}
use Rattle.lru_limits.specs.Rules.{Rules, Offers}
use Rattle.lru_limits.specs.Laws.{IsLookup, IsInsertion}
use Rattle.lru_model.specs.Lists.{is_empty, first, IsFront, lookup, lookup_entry, without}
use Rattle.lru_model.specs.State.{State, Contents, contents, IsWithin, Leaves, pop, trim, trim_from}
use Rattle.lru_model.specs.Place.{Place, Outcome, placed, refused, no_memory}
use Rattle.lru_model.specs.Inserts.{Insert, replaced, not_replaced, no_memory_to_admit, not_admitted, admitted}
use Rattle.lru_model.specs.Inserts.{replacement}
use Rattle.lru_model.specs.Inserts.{with_replaced, Settles}
use Rattle.lru_model.specs.Theorems.{IsNewest, SaysWhether, Stores, left, given, KeepsValues}
use Rattle.lru_model.proofs.States.LeavingPairs.{length-without_last}
use Rattle.lru_model.proofs.States.Outcomes.{ok-not_err, same_kept}
use Rattle.lru_model.proofs.Theorems.Fronts.{front_first, front_way, front_same, front_trans, front_trim}
use Rattle.lru_model.proofs.Theorems.Fronts.{front_make_room, front_absent, front_cons, given_named, replaced_named}
use Rattle.lru_model.proofs.Theorems.Ways.{Lands, place_lands}
use Rattle.lru_model.proofs.PairLists.DistinctKeys.{AreDistinct, absent_without}

module _ {K V S : Type 0} (rules : Rules K V S) where
  within_from : (n : ℕ) (c : Contents K V S) → length c.pairs ≡ n → IsWithin rules (trim_from rules n c)
  within_from zero c e = inl (nil_from_length c.pairs e)
  within_from (suc n) c e = go (rules.is_over_the_limit c.limiter (suc n)) refl
      (within_from n (pop rules c) (omega (arith, length-without_last c.pairs)))
    where
      go : (b : Bool) → rules.is_over_the_limit c.limiter (suc n) ≡ b → IsWithin rules (trim_from rules n (pop rules c))
          → IsWithin rules (cond b (trim_from rules n (pop rules c)) c)
      go true h p = p
      go false h p = inr (rw e h)

  pub trim_ends : (c : Contents K V S) → IsWithin rules (trim rules c)
  unfolding trim
  trim_ends c = within_from (length c.pairs) c refl

  trim_within : (c : Contents K V S) → is_empty (trim rules c).pairs ≡ false
      → rules.is_over_the_limit (trim rules c).limiter (length (trim rules c).pairs) ≡ false
  unfolding trim
  trim_within c h = go (within_from (length c.pairs) c refl)
    where
      go : IsWithin rules (trim_from rules (length c.pairs) c)
          → rules.is_over_the_limit (trim_from rules (length c.pairs) c).limiter
          (length (trim_from rules (length c.pairs) c).pairs) ≡ false
      go (inl e) = absurd (true≢false (sym (ap is_empty e) ∙ h))
      go (inr f) = f

  trim_newest : (names : K → Bool) (c : Contents K V S) → is_empty (trim rules c).pairs ≡ false
      → IsNewest names c.pairs → IsNewest names (trim rules c).pairs
  trim_newest names c h n = go
      (front_cons n.pair n.rest (trim rules c).pairs
      (subst (IsFront (trim rules c).pairs) n.first (front_trim rules c)))
    where
      go : ((trim rules c).pairs ≡ [])
          ⊎ ((ys : List (K × V)) × IsFront ys n.rest × ((trim rules c).pairs ≡ n.pair ∷ ys))
          → IsNewest names (trim rules c).pairs
      go (inl e) = absurd (true≢false (rw e at h))
      go (inr t) = record { pair = n.pair; rest = t.0; first = t.2; named = n.named }

module _ {K V S H : Type 0} (rules : Rules K V S) (hash_of : H → K → ℕ) (pair : K × V) (old : State K V S H) where
  abbrev pub Comes : Outcome → State K V S H → Type 0
  Comes placed new = (rest : List (K × V)) × (new.pairs ≡ pair ∷ rest)
  Comes refused new = new.pairs ≡ []
  Comes no_memory new = IsFront new.pairs old.pairs

  pub place_comes : (outcome : Outcome) (new : State K V S H) → Place rules hash_of pair old outcome new
      → Comes outcome new
  place_comes outcome new p = let m = place_lands rules _ (front_way rules)
      (λ _. Unit {0}) hash_of pair old tt outcome new p in end outcome m.mid m.way m.lands
    where
      end : (outcome : Outcome) (mid : State K V S H) → IsFront mid.pairs old.pairs
          → Lands rules (λ _. Unit {0}) pair old outcome mid new → Comes outcome new
      end placed mid f l = (mid.pairs, ap (λ st. st.pairs) l.is.state)
      end refused mid f l = ap (λ st. st.pairs) l.1 ∙ l.0
      end no_memory mid f l = front_trans _ (front_same (ap (λ st. st.pairs) l)) f

module _ {K V S H : Type 0} (rules : Rules K V S) (names : K → Bool) where
  trimmed_says : (mid : State K V S H) (c : Contents K V S) (result : Result Bool AllocError) (new : State K V S H)
      → Leaves mid (trim rules c) new
      → result ≡ Ok (not (is_empty new.pairs)) → IsNewest names c.pairs → SaysWhether rules names result new
  trimmed_says mid c result new l r n = rw r (go (is_empty new.pairs) refl)
    where
      same : new.pairs ≡ (trim rules c).pairs
      same = ap (λ st. st.pairs) l.is

      same_limiter : new.limiter ≡ (trim rules c).limiter
      same_limiter = ap (λ st. st.limiter) l.is

      go : (b : Bool) → is_empty new.pairs ≡ b → SaysWhether rules names (Ok (not b)) new
      go true e = ap (lookup_entry names) (nil_from_length new.pairs (empty-length new.pairs e))
      go false e = let k : is_empty (trim rules c).pairs ≡ false = rw same at e in
          (rw same (trim_newest rules names c k n), rw (same, same_limiter) (trim_within rules c k))

  err_says : (result : Result Bool AllocError) (new : State K V S H) → IsErr result → lookup_entry names new.pairs
      ≡ None → SaysWhether rules names result new
  err_says (Ok b) new h absent = absurd (grind (arith, h))
  err_says (Err e) new h absent = absent

  settled_says : (hash_of : H → K → ℕ) (pair : K × V) (ready : State K V S H) (outcome : Outcome)
      (landed : State K V S H) (result : Result Bool AllocError) (new : State K V S H) → names pair.0 ≡ true
      → lookup_entry names ready.pairs ≡ None → Comes rules hash_of pair ready outcome landed
      → Settles rules outcome landed result new → SaysWhether rules names result new
  settled_says hash_of pair ready placed landed result new n absent b s = trimmed_says landed (contents landed)
      result new s.1 s.0 (record { pair = pair; rest = b.0; first = b.1; named = n })
  settled_says hash_of pair ready refused landed result new n absent b s = rw s.0
      (ap (λ st. lookup_entry names st.pairs) s.1 ∙ ap (lookup_entry names) b)
  settled_says hash_of pair ready no_memory landed result new n absent b s = err_says result new s.0
      (ap (λ st. lookup_entry names st.pairs) s.1 ∙ front_absent names landed.pairs ready.pairs b absent)

module _ {K V S H I : Type 0} {rules : Rules K V S} {offers : Offers K V S I} {names : I → K → Bool}
    {hash_of : H → K → ℕ} {eq : K → K → Bool} {query_input : I → List (List ℕ)} {key_input : K → List (List ℕ)}
    (looks_up : IsLookup names eq query_input key_input) (laws : IsInsertion names eq offers) {i : I} {v : V}
    {old : State K V S H} where
  pub insert_says : {result : Result Bool AllocError} {new : State K V S H} → AreDistinct eq old.pairs
      → Insert rules offers names hash_of i v old result new → SaysWhether rules (names i) result new
  insert_says {result} {new} d (replaced pair found y r l) = trimmed_says rules (names i) old
      (with_replaced rules offers names pair i v (contents old)) result new l r (record {
        pair = (
          (replacement rules offers names pair i v (contents old)).key,
          (replacement rules offers names pair i v (contents old)).new_value,
        );
        rest = without (names i) old.pairs;
        first = refl;
        named = replaced_named rules offers names looks_up laws i v old pair found;
      })
  insert_says {result} {new} d (not_replaced pair found y r l) = rw r (ap (λ st. lookup_entry (names i) st.pairs) l.is
      ∙ absent_without eq (names i) (λ x y n. looks_up.one i x y n) old.pairs d)
  insert_says {result} {new} d (no_memory_to_admit a k r e) = err_says rules (names i) result new r
      (ap (λ st. lookup_entry (names i) st.pairs) e ∙ a)
  insert_says {result} {new} d (not_admitted a s n r e) = rw r (ap (λ st. lookup_entry (names i) st.pairs) e ∙ a)
  insert_says {result} {new} d (admitted a s pair n (ready, l, (outcome, landed, p, t))) =
      settled_says rules (names i) hash_of pair ready outcome landed result new
      (given_named rules offers names looks_up laws i v old s pair n)
      (front_absent (names i) ready.pairs old.pairs (front_trans _ (front_same (ap (λ st. st.pairs) l.is))
      (front_make_room rules (record { pairs = old.pairs; limiter = s }))) a)
      (place_comes rules hash_of pair ready outcome landed p) t

module _ {K V S H I : Type 0} {rules : Rules K V S} {offers : Offers K V S I} {names : I → K → Bool} {i : I} {v : V}
    {old : State K V S H} where
  stored : (c : Contents K V S) (mid : State K V S H) (new : State K V S H) → Leaves mid (trim rules c) new
      → ◌≡◌ {A = Result Bool AllocError} (Ok true) (Ok (not (is_empty new.pairs)))
      → (pair : K × V) (rest : List (K × V))
      → c.pairs ≡ pair ∷ rest → Stores rules offers names i v old pair
      → IfSome (first new.pairs) (Stores rules offers names i v old)
  stored c mid new l r pair rest is h =
      let there : is_empty new.pairs ≡ false = not-true (is_empty new.pairs) (sym (same_kept true _ r)) in
      let same : new.pairs ≡ (trim rules c).pairs = ap (λ st. st.pairs) l.is in
      subst (λ o. IfSome o (Stores rules offers names i v old))
      (sym (front_first new.pairs c.pairs (subst (λ xs. IsFront xs c.pairs) (sym same) (front_trim rules c)) there
      ∙ ap first is)) h

  pub insert_stores : {hash_of : H → K → ℕ} {result : Result Bool AllocError} {new : State K V S H} → result ≡ Ok true
      → Insert rules offers names hash_of i v old result new
      → IfSome (first new.pairs) (Stores rules offers names i v old)
  insert_stores {new = new} q (replaced pair found y r l) = stored
      (with_replaced rules offers names pair i v (contents old)) old new l (sym q ∙ r) _ _ refl (left pair found y refl)
  insert_stores q (not_replaced pair found y r l) = absurd (false≢true (same_kept false true (sym r ∙ q)))
  insert_stores {result = result} q (no_memory_to_admit a k r e) = ok-not_err result (rw q refl) r
  insert_stores q (not_admitted a s n r e) = absurd (false≢true (same_kept false true (sym r ∙ q)))
  insert_stores {hash_of} {result} {new} q (admitted a s pair n (ready, l, (outcome, landed, p, t))) = go outcome
      (place_comes rules hash_of pair ready outcome landed p) t
    where
      go : (outcome : Outcome) → Comes rules hash_of pair ready outcome landed
          → Settles rules outcome landed result new → IfSome (first new.pairs) (Stores rules offers names i v old)
      go placed b t = stored (contents landed) landed new t.1 (sym q ∙ t.0) pair b.0 b.1 (given a s n)
      go refused b t = absurd (false≢true (same_kept false true (sym t.0 ∙ q)))
      go no_memory b t = ok-not_err result (rw q refl) t.0

module _ {K V S H I : Type 0} (rules : Rules K V S) (offers : Offers K V S I) (names : I → K → Bool) (i : I) (v : V)
    (old : State K V S H) where
  pub insert_found : KeepsValues offers → (new : State K V S H) → IsNewest (names i) new.pairs
      → IfSome (first new.pairs) (Stores rules offers names i v old) → lookup (names i) new.pairs ≡ Some v
  insert_found keeps new n h = rw n.first (rw n.named (ap Some (value n.pair (rw n.first at h))))
    where
      value : (pair : K × V) → Stores rules offers names i v old pair → pair.1 ≡ v
      value pair (left was found y is) = ap (λ p. p.1) is
          ∙ keeps.replaced old.limiter (length old.pairs) was.0 i was.1 v
      value pair (given a s n) = keeps.given old.limiter (length old.pairs) i v s pair.0 pair.1 n
