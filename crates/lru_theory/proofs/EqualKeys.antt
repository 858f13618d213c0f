use Rattle.std.proofs.Common.{◌≡◌, ℕ, zero, suc, ◌+◌, Bool, true, false, cond, List, [], ◌∷◌, length, take}
use Rattle.std.proofs.Common.{refl, ap, ◌∙◌}
use Rattle.std.proofs.lemmas.Bool.{and_from, and_parts}
use Rattle.std.proofs.lemmas.Cmp.{lists_equiv}
use Rattle.std.specs.Cmp.{IsEquivalence}
use Rattle.std.specs.Cmp.Lexicographic.{pointwise}
use Rattle.std.specs.Prelude.{◌||◌}
use Rattle.std.specs.List.{AllByRecursion, IsDistinct}
use Rattle.std.proofs.lemmas.Map.Keys.{IsDistinct-tail, IsDistinct-head}
use Rattle.std.specs.Set.{remove_key}
use Rattle.lru_theory.specs.Inclusion.{KeyCall, refers, promotes, removes, clears, looks, after_call}
use Rattle.lru_theory.specs.Traces.{is_in, recency, refer, cached_by, faults_by, AreEqual}

module _ {K : Type 0} (eq : K → K → Bool) where
  pub head_equal : (x : K) (xs : List K) (y : K) (ys : List K) → AreEqual eq (x ∷ xs) (y ∷ ys) → eq x y ≡ true
  head_equal x xs y ys e = (and_parts (eq x y) (pointwise eq xs ys) e).0

  pub tail_equal : (x : K) (xs : List K) (y : K) (ys : List K) → AreEqual eq (x ∷ xs) (y ∷ ys) → AreEqual eq xs ys
  tail_equal x xs y ys e = (and_parts (eq x y) (pointwise eq xs ys) e).1

  pub both_equal : (x : K) (xs : List K) (y : K) (ys : List K) → eq x y ≡ true → AreEqual eq xs ys
      → AreEqual eq (x ∷ xs) (y ∷ ys)
  both_equal x xs y ys e h = and_from (eq x y) (pointwise eq xs ys) e h

  pub taken_equal : (n : ℕ) (xs ys : List K) → AreEqual eq xs ys → AreEqual eq (take n xs) (take n ys)
  taken_equal zero xs ys e = refl
  taken_equal (suc n) [] [] e = refl
  taken_equal (suc n) [] (y ∷ ys) e = absurd cc
  taken_equal (suc n) (x ∷ xs) [] e = absurd cc
  taken_equal (suc n) (x ∷ xs) (y ∷ ys) e =
      both_equal x (take n xs) y (take n ys) (head_equal x xs y ys e) (taken_equal n xs ys (tail_equal x xs y ys e))

module _ {K : Type 0} {eq : K → K → Bool} (laws : IsEquivalence eq) where
  pub named_alike : (key x y : K) → eq x y ≡ true → eq key x ≡ eq key y
  named_alike key x y same = laws.symm key x ∙ laws.congr x y key same ∙ laws.symm y key

  pub equal_refl : (xs : List K) → AreEqual eq xs xs
  equal_refl = (lists_equiv laws).refl

  pub equal_sym : (xs ys : List K) → AreEqual eq xs ys → AreEqual eq ys xs
  equal_sym xs ys e = (lists_equiv laws).symm ys xs ∙ e

  pub equal_trans : (xs ys zs : List K) → AreEqual eq xs ys → AreEqual eq ys zs → AreEqual eq xs zs
  equal_trans xs ys zs e h = (lists_equiv laws).congr xs ys zs e ∙ h

  pub is_in_equal : (key : K) (xs ys : List K) → AreEqual eq xs ys → is_in eq key xs ≡ is_in eq key ys
  is_in_equal key [] [] e = refl
  is_in_equal key [] (y ∷ ys) e = absurd cc
  is_in_equal key (x ∷ xs) [] e = absurd cc
  is_in_equal key (x ∷ xs) (y ∷ ys) e = λ i. named_alike key x y (head_equal eq x xs y ys e) i
      || is_in_equal key xs ys (tail_equal eq x xs y ys e) i

  pub without_equal : (key : K) (xs ys : List K) → AreEqual eq xs ys
      → AreEqual eq (remove_key (eq key) xs) (remove_key (eq key) ys)
  without_equal key [] [] e = refl
  without_equal key [] (y ∷ ys) e = absurd cc
  without_equal key (x ∷ xs) [] e = absurd cc
  without_equal key (x ∷ xs) (y ∷ ys) e =
      go (eq key x) (eq key y) (named_alike key x y (head_equal eq x xs y ys e))
      (without_equal key xs ys (tail_equal eq x xs y ys e))
    where
      go : (b d : Bool) → b ≡ d → AreEqual eq (remove_key (eq key) xs) (remove_key (eq key) ys)
          → AreEqual eq (cond b xs (x ∷ remove_key (eq key) xs)) (cond d ys (y ∷ remove_key (eq key) ys))
      go true true is ih = tail_equal eq x xs y ys e
      go true false is ih = absurd cc
      go false true is ih = absurd cc
      go false false is ih = both_equal eq x (remove_key (eq key) xs) y (remove_key (eq key) ys)
          (head_equal eq x xs y ys e) ih

  pub refer_equal : (n : ℕ) (key : K) (xs ys : List K) → AreEqual eq xs ys
      → AreEqual eq (refer eq n key xs) (refer eq n key ys)
  refer_equal n key xs ys e =
      taken_equal eq n (key ∷ remove_key (eq key) xs) (key ∷ remove_key (eq key) ys)
      (both_equal eq key (remove_key (eq key) xs) key (remove_key (eq key) ys) (laws.refl key) (without_equal key xs ys e))

  -- A reference, and so a trace, turns equal lists into equal lists. Both caches miss equally often.
  module _ (change : K → List K → List K)
      (alike : (key : K) (xs ys : List K) → AreEqual eq xs ys → AreEqual eq (change key xs) (change key ys)) where
    pub cached_equal : (trace xs ys : List K) → AreEqual eq xs ys
        → AreEqual eq (cached_by change xs trace) (cached_by change ys trace)
    cached_equal [] xs ys e = e
    cached_equal (key ∷ trace) xs ys e = cached_equal trace (change key xs) (change key ys) (alike key xs ys e)

    pub faults_equal : (trace xs ys : List K) → AreEqual eq xs ys
        → faults_by eq change xs trace ≡ faults_by eq change ys trace
    faults_equal [] xs ys e = refl
    faults_equal (key ∷ trace) xs ys e = λ i. cond (is_in_equal key xs ys e i) 0 1
        + faults_equal trace (change key xs) (change key ys) (alike key xs ys e) i

  pub call_equal : (n : ℕ) (call : KeyCall K) (xs ys : List K) → AreEqual eq xs ys
      → AreEqual eq (after_call eq n call xs) (after_call eq n call ys)
  call_equal n (refers key) xs ys e = refer_equal n key xs ys e
  call_equal n (promotes key) xs ys e = go (is_in eq key xs) (is_in eq key ys) (is_in_equal key xs ys e)
    where
      go : (b d : Bool) → b ≡ d → AreEqual eq (cond b (key ∷ remove_key (eq key) xs) xs)
          (cond d (key ∷ remove_key (eq key) ys) ys)
      go true true is = both_equal eq key (remove_key (eq key) xs) key (remove_key (eq key) ys) (laws.refl key)
          (without_equal key xs ys e)
      go true false is = absurd cc
      go false true is = absurd cc
      go false false is = e
  call_equal n (removes key) xs ys e = without_equal key xs ys e
  call_equal n clears xs ys e = refl
  call_equal n looks xs ys e = e

  pub recency_distinct : (xs : List K) → IsDistinct eq xs → recency eq xs ≡ xs
  recency_distinct [] h = refl
  recency_distinct (x ∷ xs) h =
      ap (λ ys. x ∷ remove_key (eq x) ys) (recency_distinct xs (IsDistinct-tail eq x xs h))
      ∙ ap (λ ys. x ∷ ys) (others x xs (IsDistinct-head eq x xs h))
    where
      others : (x : K) (xs : List K) → AllByRecursion (λ y. eq x y ≡ false) xs → remove_key (eq x) xs ≡ xs
      others x [] h = refl
      others x (y ∷ ys) h = rw h.0 (ap (λ zs. y ∷ zs) (others x ys h.1))

pub equal_long : {K : Type 0} (eq : K → K → Bool) (xs ys : List K) → AreEqual eq xs ys → length xs ≡ length ys
equal_long eq [] [] e = refl
equal_long eq [] (y ∷ ys) e = absurd cc
equal_long eq (x ∷ xs) [] e = absurd cc
equal_long eq (x ∷ xs) (y ∷ ys) e = ap suc (equal_long eq xs ys (tail_equal eq x xs y ys e))
