use Rattle.std.proofs.Common.{◌≡◌, ℕ, ◌⊎◌, inl, inr, Bool, true, false, cond, List, [], ◌∷◌, ◌++◌, length, Some}
use Rattle.std.proofs.Common.{None, Result, refl, sym, ap, ◌∙◌, subst, append_assoc, append-nil, arith, ◌≤◌}
use Rattle.std.proofs.Common.{length-append}
use Rattle.lru_model.specs.Lists.{is_empty, first, IsFront, without_last, lookup_entry, set_entry, without}
use Rattle.std.specs.declared.alloc.AllocError.{AllocError}
use Rattle.lru_limits.specs.Rules.{Rules, Offers}
use Rattle.lru_limits.specs.Laws.{IsLookup, IsInsertion}
use Rattle.lru_model.specs.State.{State, Contents, contents, pops, trim}
use Rattle.lru_model.specs.Place.{Place, Outcome, placed, refused, no_memory}
use Rattle.lru_model.specs.Inserts.{Insert, replaced, not_replaced, no_memory_to_admit, not_admitted, admitted}
use Rattle.lru_model.specs.Inserts.{make_room}
use Rattle.lru_model.specs.Inserts.{MayGive, Rejects, replacement, with_replaced}
use Rattle.lru_model.specs.Theorems.{EvictsOldest, with_pair, with_none, without_one}
use Rattle.lru_model.specs.Updates.{Update, updated, rejected, not_there, with_updated}
use Rattle.lru_model.specs.declared.results.Updated.{Updated}
use Rattle.lru_model.proofs.Theorems.Moves.{KeepsWay, pops_keep, trim_keeps, make_room_keeps, settles_keep}
use Rattle.lru_model.proofs.Theorems.Ways.{Lands, place_lands}

module _ {X : Type 0} where
  pub front_self : (xs : List X) → IsFront xs xs
  front_self xs = ([], sym (append-nil xs))

  pub front_same : {xs ys : List X} → xs ≡ ys → IsFront xs ys
  front_same {xs} e = ([], sym e ∙ sym (append-nil xs))

  pub front_trans : (xs : List X) {ys zs : List X} → IsFront xs ys → IsFront ys zs → IsFront xs zs
  front_trans xs p q = (p.0 ++ q.0, q.1 ∙ ap (λ l. l ++ q.0) p.1 ∙ append_assoc xs p.0 q.0)

  pub length-front : (ys xs : List X) → IsFront ys xs → length ys ≤ length xs
  length-front ys xs f = omega (arith, ap length f.1, length-append ys f.0)

  pub front_without_last : (xs : List X) → IsFront (without_last xs) xs
  front_without_last [] = ([], refl)
  front_without_last (x ∷ []) = (x ∷ [], refl)
  front_without_last (x ∷ y ∷ ys) = let p = front_without_last (y ∷ ys) in (p.0, ap (λ l. x ∷ l) p.1)

  pub front_cons : (x : X) (xs zs : List X) → IsFront zs (x ∷ xs) → (zs ≡ [])
      ⊎ ((ys : List X) × IsFront ys xs × (zs ≡ x ∷ ys))
  front_cons x xs [] p = inl refl
  front_cons x xs (z ∷ zs) p = inr (zs, (p.0, grind arith), grind arith)

  pub front_first : (xs ys : List X) → IsFront xs ys → is_empty xs ≡ false → first xs ≡ first ys
  front_first [] ys f e = absurd cc
  front_first (x ∷ xs) ys f e = sym (ap first f.1)

  pub front_more : (x : X) (ys xs : List X) → IsFront ys xs → IsFront (x ∷ ys) (x ∷ xs)
  front_more x ys xs p = (p.0, ap (λ l. x ∷ l) p.1)

module _ {K V : Type 0} where
  pub front_absent : (names : K → Bool) (xs ys : List (K × V)) → IsFront xs ys → lookup_entry names ys ≡ None
      → lookup_entry names xs ≡ None
  front_absent names [] ys front absent = refl
  front_absent names (x ∷ xs) ys front absent =
      go (names x.0) (front_absent names xs (xs ++ front.0) (front.0, refl)) (sym (ap (lookup_entry names) front.1)
      ∙ absent)
    where
      go : (b : Bool) → (lookup_entry names (xs ++ front.0) ≡ None → lookup_entry names xs ≡ None) →
          cond b (Some x) (lookup_entry names (xs ++ front.0)) ≡ None → cond b (Some x) (lookup_entry names xs) ≡ None
      go true f h = h
      go false f h = f h

  pub without_none : (names : K → Bool) (xs : List (K × V)) → lookup_entry names xs ≡ None → without names xs ≡ xs
  without_none names [] h = refl
  without_none names (x ∷ xs) h = go (names x.0) (without_none names xs) h
    where
      go : (b : Bool) → (lookup_entry names xs ≡ None → without names xs ≡ xs)
          → cond b (Some x) (lookup_entry names xs) ≡ None → cond b xs (x ∷ without names xs) ≡ x ∷ xs
      go true f h = grind arith
      go false f h = ap (λ l. x ∷ l) (f h)

module _ {K V S : Type 0} (rules : Rules K V S) where
  pub front_way : KeepsWay rules (λ c d. IsFront d.pairs c.pairs)
  front_way = record {
    self = λ c. front_self c.pairs;
    trans = λ p q. front_trans _ q p;
    asked = λ bytes c. front_self c.pairs;
    popped = λ c. front_without_last c.pairs;
  }

  pub front_pops : (n : ℕ) (c : Contents K V S) → IsFront (pops rules n c).pairs c.pairs
  front_pops = pops_keep rules _ front_way

  pub front_trim : (c : Contents K V S) → IsFront (trim rules c).pairs c.pairs
  front_trim = trim_keeps rules _ front_way

  pub front_make_room : (c : Contents K V S) → IsFront (make_room rules c).pairs c.pairs
  front_make_room = make_room_keeps rules _ front_way

  abbrev pub Ends : {H : Type 0} → K × V → State K V S H → State K V S H → Type 0
  Ends pair old new = IsFront new.pairs (pair ∷ old.pairs) ⊎ IsFront new.pairs old.pairs

  place_ends : {H : Type 0} (hash_of : H → K → ℕ) (pair : K × V) (old : State K V S H) (outcome : Outcome)
      (new : State K V S H) → Place rules hash_of pair old outcome new → Ends pair old new
  place_ends {H} hash_of pair old outcome new p = let m = place_lands rules _ front_way
      (λ _. Unit {0}) hash_of pair old tt outcome new p in end outcome m.mid m.way m.lands
    where
      end : (outcome : Outcome) (mid : State K V S H) → IsFront mid.pairs old.pairs
          → Lands rules (λ _. Unit {0}) pair old outcome mid new → Ends pair old new
      end placed mid f l = inl (front_trans _ (front_same (ap (λ st. st.pairs) l.is.state)) (front_more pair _ _ f))
      end refused mid f l = inr (front_trans _ (front_same (ap (λ st. st.pairs) l.1)) f)
      end no_memory mid f l = inr (front_trans _ (front_same (ap (λ st. st.pairs) l)) f)

module _ {K V : Type 0} where
  pub found_named : (names : K → Bool) (xs : List (K × V)) (p : K × V) → lookup_entry names xs ≡ Some p → names p.0
      ≡ true
  found_named names [] p h = absurd (grind arith)
  found_named names (x ∷ xs) p h = go (names x.0) refl (found_named names xs p) h
    where
      same : Some x ≡ Some p → x ≡ p
      same e = grind arith

      go : (b : Bool) → names x.0 ≡ b → (lookup_entry names xs ≡ Some p → names p.0 ≡ true)
          → cond b (Some x) (lookup_entry names xs) ≡ Some p → names p.0 ≡ true
      go true e f h = ap (λ (y : K × V). names y.0) (sym (same h)) ∙ e
      go false e f h = f h

module _ {K V S H I : Type 0} (rules : Rules K V S) (offers : Offers K V S I) (names : I → K → Bool)
    {eq : K → K → Bool} {query_input : I → List (List ℕ)} {key_input : K → List (List ℕ)}
    (looks_up : IsLookup names eq query_input key_input)
    (laws : IsInsertion names eq offers) (i : I) (v : V) (old : State K V S H) where
  pub given_named : (s : S) (pair : K × V) → MayGive rules offers names i v (contents old) s (Some pair)
      → names i pair.0 ≡ true
  given_named s pair n = laws.names_given old.limiter (length old.pairs) i v s pair.0 pair.1 n

  pub replaced_named : (pair : K × V) → lookup_entry (names i) old.pairs ≡ Some pair
      → names i (replacement rules offers names pair i v (contents old)).key ≡ true
  replaced_named pair found =
      let n = found_named (names i) old.pairs pair found in
      looks_up.one i pair.0 (replacement rules offers names pair i v (contents old)).key n
      ∙ laws.keeps_key old.limiter (length old.pairs) pair.0 i pair.1 v n

module _ {K V S H I : Type 0} {rules : Rules K V S} {offers : Offers K V S I} {names : I → K → Bool}
    {hash_of : H → K → ℕ} {eq : K → K → Bool} {query_input : I → List (List ℕ)} {key_input : K → List (List ℕ)}
    (looks_up : IsLookup names eq query_input key_input)
    (laws : IsInsertion names eq offers) (i : I) (v : V) (old : State K V S H) where
  pub insert_evicts : (result : Result Bool AllocError) (new : State K V S H)
      → Insert rules offers names hash_of i v old result new
      → EvictsOldest (names i) (Rejects rules offers names i v (contents old)) (λ pair. pair ∷ without (names i) old.pairs)
      old.pairs new.pairs
  insert_evicts result new (replaced pair found y r l) =
      with_pair _ (replaced_named rules offers names looks_up laws i v old pair found)
      (front_trans _ (front_same (ap (λ st. st.pairs) l.is))
      (front_trim rules (with_replaced rules offers names pair i v (contents old))))
  insert_evicts result new (not_replaced pair found y r l) = without_one pair found y (ap (λ st. st.pairs) l.is)
  insert_evicts result new (no_memory_to_admit a k r e) = with_none a (front_same (ap (λ st. st.pairs) e))
  insert_evicts result new (not_admitted a s n r e) = with_none a (front_same (ap (λ st. st.pairs) e))
  insert_evicts result new (admitted a s pair n (ready, l, (outcome, landed, p, t))) = go
      (place_ends rules hash_of pair ready outcome landed p)
    where
      ready_front : IsFront ready.pairs old.pairs
      ready_front = front_trans _ (front_same (ap (λ st. st.pairs) l.is))
          (front_make_room rules (record { pairs = old.pairs; limiter = s }))

      others : IsFront ready.pairs (without (names i) old.pairs)
      others = subst (IsFront ready.pairs) (sym (without_none (names i) old.pairs a)) ready_front

      go : Ends rules pair ready landed
          → EvictsOldest (names i) (Rejects rules offers names i v (contents old))
          (λ pair. pair ∷ without (names i) old.pairs) old.pairs new.pairs
      go (inl f) = with_pair pair (given_named rules offers names looks_up laws i v old s pair n)
          (front_trans _ (settles_keep rules _ (front_way rules) outcome landed result new t)
          (front_trans _ f (front_more pair _ _ others)))
      go (inr f) = with_none a (front_trans _ (settles_keep rules _ (front_way rules) outcome landed result new t)
          (front_trans _ f ready_front))

module _ {K V S H I : Type 0} {rules : Rules K V S} {offers : Offers K V S I} {names : I → K → Bool}
    {eq : K → K → Bool} {query_input : I → List (List ℕ)} {key_input : K → List (List ℕ)}
    (looks_up : IsLookup names eq query_input key_input)
    (laws : IsInsertion names eq offers) (i : I) (v : V) (old : State K V S H) where
  pub update_evicts : (result : Updated V) (new : State K V S H) → Update rules offers names i v old result new
      → EvictsOldest (names i) (Rejects rules offers names i v (contents old)) (λ pair. set_entry (names i) pair old.pairs)
      old.pairs new.pairs
  update_evicts result new (updated pair found y r l) =
      with_pair _ (replaced_named rules offers names looks_up laws i v old pair found)
      (front_trans _ (front_same (ap (λ st. st.pairs) l.is))
      (front_trim rules (with_updated rules offers names pair i v (contents old))))
  update_evicts result new (rejected pair found y r l) = without_one pair found y (ap (λ st. st.pairs) l.is)
  update_evicts result new (not_there a r e) = with_none a (front_same (ap (λ st. st.pairs) e))
