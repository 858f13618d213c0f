-- Any call keeps a smaller cache included in a larger one.
use Rattle.std.proofs.Common.{◌≡◌, ℕ, zero, suc, ◌+◌, ◌-◌, ◌≤◌, Bool, true, false, cond, List, [], ◌∷◌, length, take}
use Rattle.std.proofs.Common.{refl, ap, ◌∙◌, subst, arith}
use Rattle.std.proofs.lemmas.List.{length-take}
use Rattle.std.proofs.lemmas.Map.Made.{length-remove_key}
use Rattle.std.proofs.lemmas.Bool.{or_right}
use Rattle.std.specs.Cmp.{IsEquivalence}
use Rattle.std.specs.Prelude.{◌||◌}
use Rattle.std.specs.Set.{remove_key}
use Rattle.lru_theory.specs.Traces.{is_in, refer, faults, AreEqual}
use Rattle.lru_theory.specs.Inclusion.{KeyCall, refers, promotes, removes, clears, looks, after_call, after_calls}
use Rattle.lru_theory.specs.Inclusion.{IsSubsequence, none, both, skips, IsIncluded}
use Rattle.lru_theory.proofs.EqualKeys.{head_equal, tail_equal, named_alike, equal_long}
use Rattle.lru_theory.proofs.Nexts.{without_absent}

pub clash : {b : Bool} {A : Type 0} → b ≡ false → b ≡ true → A
clash e h = absurd cc

module _ {K : Type 0} {eq : K → K → Bool} (laws : IsEquivalence eq) where
  abbrev Sub : List K → List K → Type 0
  Sub = IsSubsequence eq

  sub_length : (xs ys : List K) → Sub xs ys → length xs ≤ length ys
  sub_length _ _ (none ys) = omega arith
  sub_length _ _ (both x y xs ys e h) = omega (arith, sub_length xs ys h)
  sub_length _ _ (skips y xs ys h) = omega (arith, sub_length xs ys h)

  sub_take : (a d : ℕ) (xs ys : List K) → Sub xs ys → length ys ≤ length xs + d → Sub (take a xs) (take (a + d) ys)
  sub_take zero d xs ys h few = none (take (0 + d) ys)
  sub_take (suc a) d _ _ (none ys) few = none (take (suc a + d) ys)
  sub_take (suc a) d _ _ (both x y xs ys same h) few =
      let e : suc a + d ≡ suc (a + d) = omega arith in
      rw e (both x y (take a xs) (take (a + d) ys) same (sub_take a d xs ys h (omega (arith, few))))
  sub_take (suc a) zero _ _ (skips y xs ys h) few = absurd (omega (arith, few, sub_length xs ys h))
  sub_take (suc a) (suc d) _ _ (skips y xs ys h) few =
      let e : suc a + suc d ≡ suc (suc a + d) = omega arith in
      rw e (skips y (take (suc a) xs) (take (suc a + d) ys) (sub_take (suc a) d xs ys h (omega (arith, few))))

  sub_less : (key : K) (xs ys : List K) → Sub xs ys → Sub (remove_key (eq key) xs) ys
  sub_less key _ _ (none ys) = none ys
  sub_less key _ _ (both x y xs ys same h) = go (eq key x) (sub_less key xs ys h)
    where
      go : (b : Bool) → Sub (remove_key (eq key) xs) ys → Sub (cond b xs (x ∷ remove_key (eq key) xs)) (y ∷ ys)
      go true ih = skips y xs ys h
      go false ih = both x y (remove_key (eq key) xs) ys same ih
  sub_less key _ _ (skips y xs ys h) = skips y (remove_key (eq key) xs) ys (sub_less key xs ys h)

  sub_without : (key : K) (xs ys : List K) → Sub xs ys → Sub (remove_key (eq key) xs) (remove_key (eq key) ys)
  sub_without key _ _ (none ys) = none (remove_key (eq key) ys)
  sub_without key _ _ (both x y xs ys same h) =
      go (eq key x) (eq key y) (named_alike laws key x y same) (sub_without key xs ys h)
    where
      go : (b d : Bool) → b ≡ d → Sub (remove_key (eq key) xs) (remove_key (eq key) ys)
          → Sub (cond b xs (x ∷ remove_key (eq key) xs)) (cond d ys (y ∷ remove_key (eq key) ys))
      go true true e ih = h
      go true false e ih = clash e refl
      go false true e ih = clash refl e
      go false false e ih = both x y (remove_key (eq key) xs) (remove_key (eq key) ys) same ih
  sub_without key _ _ (skips y xs ys h) = go (eq key y) (sub_without key xs ys h)
    where
      go : (b : Bool) → Sub (remove_key (eq key) xs) (remove_key (eq key) ys)
          → Sub (remove_key (eq key) xs) (cond b ys (y ∷ remove_key (eq key) ys))
      go true ih = sub_less key xs ys h
      go false ih = skips y (remove_key (eq key) xs) (remove_key (eq key) ys) ih

  pub sub_equal : (xs others ys : List K) → AreEqual eq others xs → Sub xs ys → Sub others ys
  sub_equal _ [] _ e h = none _
  sub_equal _ (o ∷ others) _ e (none ys) = absurd cc
  sub_equal _ (o ∷ others) _ e (both x y xs ys same h) =
      both o y others ys (laws.congr o x y (head_equal eq o others x xs e) ∙ same)
      (sub_equal xs others ys (tail_equal eq o others x xs e) h)
  sub_equal _ (o ∷ others) _ e (skips y xs ys h) = skips y (o ∷ others) ys (sub_equal xs (o ∷ others) ys e h)

  pub equal_sub : (xs ys others : List K) → Sub xs ys → AreEqual eq others ys → Sub xs others
  equal_sub _ _ others (none ys) e = none others
  equal_sub _ _ [] (both x y xs ys same h) e = absurd cc
  equal_sub _ _ (o ∷ others) (both x y xs ys same h) e =
      both x o xs others
      (laws.symm x o ∙ laws.congr o y x (head_equal eq o others y ys e) ∙ laws.symm y x ∙ same)
      (equal_sub xs ys others h (tail_equal eq o others y ys e))
  equal_sub _ _ [] (skips y xs ys h) e = absurd cc
  equal_sub _ _ (o ∷ others) (skips y xs ys h) e =
      skips o xs others (equal_sub xs ys others h (tail_equal eq o others y ys e))

  pub sub_in : (key : K) (xs ys : List K) → Sub xs ys → is_in eq key xs ≡ true → is_in eq key ys ≡ true
  sub_in key _ _ (none ys) e = absurd cc
  sub_in key _ _ (both x y xs ys same h) e =
      go (eq key x) (eq key y) (named_alike laws key x y same) e (sub_in key xs ys h)
    where
      go : (b d : Bool) → b ≡ d → (b || is_in eq key xs) ≡ true → (is_in eq key xs ≡ true → is_in eq key ys ≡ true)
          → (d || is_in eq key ys) ≡ true
      go b true is e ih = refl
      go true false is e ih = clash is refl
      go false false is e ih = ih e
  sub_in key _ _ (skips y xs ys h) e = or_right (eq key y) (is_in eq key ys) (sub_in key xs ys h e)

  without_few : (key : K) (xs : List K) → length (remove_key (eq key) xs) ≤ length xs
  without_few key xs = go (is_in eq key xs) refl
    where
      go : (b : Bool) → is_in eq key xs ≡ b → length (remove_key (eq key) xs) ≤ length xs
      go true e = omega (arith, length-remove_key (eq key) xs e)
      go false e = omega (arith, ap length (without_absent laws key xs e))

  gap_without : (d : ℕ) (key : K) (xs ys : List K) → Sub xs ys → length ys ≤ length xs + d
      → length (remove_key (eq key) ys) ≤ length (remove_key (eq key) xs) + d
  gap_without d key xs ys h few = go (is_in eq key xs) refl
    where
      go : (b : Bool) → is_in eq key xs ≡ b → length (remove_key (eq key) ys) ≤ length (remove_key (eq key) xs) + d
      go true e = omega (
        arith,
        few,
        length-remove_key (eq key) xs e,
        length-remove_key (eq key) ys
            (sub_in key xs ys h e),
      )
      go false e = omega (arith, few, ap length (without_absent laws key xs e), without_few key ys)

  one_call : (n m : ℕ) → n ≤ m → (call : KeyCall K) (xs ys : List K) → IsIncluded eq n m xs ys
      → IsIncluded eq n m (after_call eq n call xs) (after_call eq m call ys)
  one_call n m less (refers key) xs ys h =
      let d = m - n in
      let more = gap_without d key xs ys h.keys h.more in
      let whole = both key key (remove_key (eq key) xs) (remove_key (eq key) ys) (laws.refl key) (sub_without key xs ys h.keys) in
      let e : n + d ≡ m = omega (arith, less) in
      record {
        keys = subst (λ k. Sub (take n (key ∷ remove_key (eq key) xs))
            (take k (key ∷ remove_key (eq key) ys))) e
            (sub_take n d (key ∷ remove_key (eq key) xs) (key ∷ remove_key (eq key) ys) whole (omega (arith, more)));
        more = omega (
          arith,
          more,
          less,
          length-take n (key ∷ remove_key (eq key) xs),
          length-take m
              (key ∷ remove_key (eq key) ys),
        );
      }
  one_call n m less (promotes key) xs ys h = go (is_in eq key xs) (is_in eq key ys) refl refl
    where
      go : (b c : Bool) → is_in eq key xs ≡ b → is_in eq key ys ≡ c
          → IsIncluded eq n m (cond b (key ∷ remove_key (eq key) xs) xs) (cond c (key ∷ remove_key (eq key) ys) ys)
      go true true e f = record {
        keys = both key key (remove_key (eq key) xs) (remove_key (eq key) ys) (laws.refl key) (sub_without key xs ys h.keys);
        more = omega (arith, gap_without (m - n) key xs ys h.keys h.more);
      }
      go true false e f = clash f (sub_in key xs ys h.keys e)
      go false true e f = record {
        keys = skips key xs (remove_key (eq key) ys) (subst (λ zs. Sub zs (remove_key (eq key) ys))
            (without_absent laws key xs e) (sub_without key xs ys h.keys));
        more = omega (arith, h.more, length-remove_key (eq key) ys f);
      }
      go false false e f = h
  one_call n m less (removes key) xs ys h = record {
    keys = sub_without key xs ys h.keys;
    more = gap_without (m - n) key xs ys h.keys h.more;
  }
  one_call n m less clears xs ys h = record { keys = none []; more = omega arith }
  one_call n m less looks xs ys h = h

  pub all_calls : (n m : ℕ) → n ≤ m → (calls : List (KeyCall K)) (xs ys : List K) → IsIncluded eq n m xs ys
      → IsIncluded eq n m (after_calls eq n calls xs) (after_calls eq m calls ys)
  all_calls n m less [] xs ys h = h
  all_calls n m less (call ∷ calls) xs ys h =
      all_calls n m less calls (after_call eq n call xs) (after_call eq m call ys) (one_call n m less call xs ys h)

  pub included_faults : (n m : ℕ) → n ≤ m → (trace xs ys : List K) → IsIncluded eq n m xs ys
      → faults eq m ys trace ≤ faults eq n xs trace
  included_faults n m less [] xs ys h = omega arith
  included_faults n m less (key ∷ trace) xs ys h =
      go (is_in eq key xs) (is_in eq key ys) (sub_in key xs ys h.keys)
      (included_faults n m less trace (refer eq n key xs) (refer eq m key ys) (one_call n m less (refers key) xs ys h))
    where
      go : (b d : Bool) → (b ≡ true → d ≡ true)
          → faults eq m (refer eq m key ys) trace ≤ faults eq n (refer eq n key xs) trace
          → cond d 0 1 + faults eq m (refer eq m key ys) trace ≤ cond b 0 1 + faults eq n (refer eq n key xs) trace
      go true true h ih = omega (arith, ih)
      go true false h ih = clash refl (h refl)
      go false true h ih = omega (arith, ih)
      go false false h ih = omega (arith, ih)

  pub included_equal : (n m : ℕ) (xs others ys more : List K) → AreEqual eq others xs → AreEqual eq more ys
      → IsIncluded eq n m xs ys → IsIncluded eq n m others more
  included_equal n m xs others ys more e h included = record {
    keys = equal_sub others ys more (sub_equal xs others ys e included.keys) h;
    more = omega (arith, included.more, equal_long eq others xs e, equal_long eq more ys h);
  }
