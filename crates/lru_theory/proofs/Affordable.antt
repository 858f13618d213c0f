-- If two caches have limits of cost, the cache with the smaller limit contains the newest keys of the other cache.
use Rattle.std.proofs.Common.{◌≡◌, ℕ, zero, suc, ◌+◌, ◌-◌, ◌≤◌, Bool, true, false, cond, List, [], ◌∷◌, length, take}
use Rattle.std.proofs.Common.{refl, ap, arith, inl, inr}
use Rattle.std.proofs.lemmas.Bool.{lt-leb, le-leb, cases_lt}
use Rattle.std.specs.Cmp.{IsEquivalence}
use Rattle.std.specs.Prelude.{◌||◌, nat_le}
use Rattle.std.specs.Set.{remove_key}
use Rattle.lru_theory.specs.Traces.{is_in, AreEqual}
use Rattle.lru_theory.specs.Budgets.{affordable, refer_within, cached_within, faults_within}
use Rattle.lru_theory.proofs.EqualKeys.{head_equal, tail_equal, both_equal, without_equal}

-- ys begins with xs
pub data Front {K : Type 0} : List K → List K → Type 0 where
  none : (ys : List K) → Front [] ys
  both : (x : K) (xs ys : List K) → Front xs ys → Front (x ∷ xs) (x ∷ ys)

pub front_taken : {K : Type 0} (xs ys : List K) → Front xs ys → xs ≡ take (length xs) ys
front_taken _ _ (none ys) = refl
front_taken _ _ (both x xs ys h) = ap (λ zs. x ∷ zs) (front_taken xs ys h)

pub front_of : {K : Type 0} (n : ℕ) (ys : List K) → Front (take n ys) ys
front_of zero ys = none ys
front_of (suc n) [] = none []
front_of (suc n) (y ∷ ys) = both y (take n ys) ys (front_of n ys)

module _ {K : Type 0} where
  pub front_without : (test : K → Bool) (xs ys : List K) → Front xs ys → Front (remove_key test xs) (remove_key test ys)
  front_without test _ _ (none ys) = none (remove_key test ys)
  front_without test _ _ (both x xs ys h) = go (test x) (front_without test xs ys h)
    where
      go : (b : Bool) → Front (remove_key test xs) (remove_key test ys)
          → Front (cond b xs (x ∷ remove_key test xs)) (cond b ys (x ∷ remove_key test ys))
      go true ih = h
      go false ih = both x (remove_key test xs) (remove_key test ys) ih

  front_afforded : (cost : K → ℕ) (n m : ℕ) (xs ys : List K) → n ≤ m → Front xs ys
      → Front (affordable cost n xs) (affordable cost m ys)
  front_afforded cost n m _ _ few (none ys) = none (affordable cost m ys)
  front_afforded cost n m _ _ few (both x xs ys h) = elim (cases_lt n (cost x)) [
    | inl dear ↦ rw (lt-leb (cost x) n dear) (none (affordable cost m (x ∷ ys)))
    | inr cheap ↦ rw (le-leb (cost x) n cheap, le-leb (cost x) m (omega (arith, cheap, few)))
        (both x (affordable cost (n - cost x) xs) (affordable cost (m - cost x) ys)
        (front_afforded cost (n - cost x) (m - cost x) xs ys (omega (arith, few)) h))
  ]

  pub front_in : (eq : K → K → Bool) (key : K) (xs ys : List K) → Front xs ys → is_in eq key xs ≡ true
      → is_in eq key ys ≡ true
  front_in eq key _ _ (none ys) e = absurd cc
  front_in eq key _ _ (both x xs ys h) e = go (eq key x) e (front_in eq key xs ys h)
    where
      go : (b : Bool) → (b || is_in eq key xs) ≡ true → (is_in eq key xs ≡ true → is_in eq key ys ≡ true)
          → (b || is_in eq key ys) ≡ true
      go true e ih = refl
      go false e ih = ih e

  module _ (eq : K → K → Bool) (cost : K → ℕ) (n m : ℕ) (few : n ≤ m) where
    front_referred : (key : K) (xs ys : List K) → Front xs ys
        → Front (refer_within eq cost n key xs) (refer_within eq cost m key ys)
    front_referred key xs ys h = front_afforded cost n m (key ∷ remove_key (eq key) xs) (key ∷ remove_key (eq key) ys)
        few (both key (remove_key (eq key) xs) (remove_key (eq key) ys) (front_without (eq key) xs ys h))

    pub front_cached : (trace xs ys : List K) → Front xs ys
        → Front (cached_within eq cost n xs trace) (cached_within eq cost m ys trace)
    front_cached [] xs ys h = h
    front_cached (key ∷ trace) xs ys h = front_cached trace (refer_within eq cost n key xs)
        (refer_within eq cost m key ys) (front_referred key xs ys h)

    pub fewer_faults : (trace xs ys : List K) → Front xs ys
        → faults_within eq cost m ys trace ≤ faults_within eq cost n xs trace
    fewer_faults [] xs ys h = omega arith
    fewer_faults (key ∷ trace) xs ys h =
        go (is_in eq key xs) (is_in eq key ys) (front_in eq key xs ys h)
        (fewer_faults trace (refer_within eq cost n key xs) (refer_within eq cost m key ys) (front_referred key xs ys h))
      where
        more : ℕ
        more = faults_within eq cost m (refer_within eq cost m key ys) trace

        less : ℕ
        less = faults_within eq cost n (refer_within eq cost n key xs) trace

        go : (b d : Bool) → (b ≡ true → d ≡ true) → more ≤ less → cond d 0 1 + more ≤ cond b 0 1 + less
        go true true h ih = omega (arith, ih)
        go true false h ih = absurd (clash (h refl))
          where
            clash : false ≡ true → ⊥
            clash e = cc
        go false true h ih = omega (arith, ih)
        go false false h ih = omega (arith, ih)

module _ {K : Type 0} (cost : K → ℕ) where
  abbrev pub spent : List K → ℕ
  spent [] = 0
  spent (key ∷ keys) = cost key + spent keys

  pub affords_all : (n : ℕ) (keys : List K) → spent keys ≤ n → affordable cost n keys ≡ keys
  affords_all n [] h = refl
  affords_all n (key ∷ keys) h = rw (le-leb (cost key) n (omega (arith, h)))
      (ap (λ ks. key ∷ ks) (affords_all (n - cost key) keys (omega (arith, h))))

  pub affords_within : (n : ℕ) (keys : List K) → spent (affordable cost n keys) ≤ n
  affords_within n [] = omega arith
  affords_within n (key ∷ keys) = elim (cases_lt n (cost key)) [
    | inl dear ↦ rw (lt-leb (cost key) n dear) (omega arith)
    | inr cheap ↦ rw (le-leb (cost key) n cheap) (omega (arith, cheap, affords_within (n - cost key) keys))
  ]

-- if equal keys cost the same, equal lists have equal affordable parts, and references keep lists equal
module _ {K : Type 0} {eq : K → K → Bool} (laws : IsEquivalence eq) (cost : K → ℕ)
    (same : (x y : K) → eq x y ≡ true → cost x ≡ cost y) where
  pub affords_equal : (n : ℕ) (xs ys : List K) → AreEqual eq xs ys
      → AreEqual eq (affordable cost n xs) (affordable cost n ys)
  affords_equal n [] [] e = refl
  affords_equal n [] (y ∷ ys) e = absurd cc
  affords_equal n (x ∷ xs) [] e = absurd cc
  affords_equal n (x ∷ xs) (y ∷ ys) e =
      let first = head_equal eq x xs y ys e in
      rw (same x y first) (go (nat_le (cost y) n) (affords_equal (n - cost y) xs ys (tail_equal eq x xs y ys e)))
    where
      go : (b : Bool) → AreEqual eq (affordable cost (n - cost y) xs) (affordable cost (n - cost y) ys)
          → AreEqual eq (cond b (x ∷ affordable cost (n - cost y) xs) [])
          (cond b (y ∷ affordable cost (n - cost y) ys) [])
      go true ih = both_equal eq x (affordable cost (n - cost y) xs) y (affordable cost (n - cost y) ys)
          (head_equal eq x xs y ys e) ih
      go false ih = refl

  pub within_equal : (n : ℕ) (key : K) (xs ys : List K) → AreEqual eq xs ys
      → AreEqual eq (refer_within eq cost n key xs) (refer_within eq cost n key ys)
  within_equal n key xs ys e = affords_equal n (key ∷ remove_key (eq key) xs) (key ∷ remove_key (eq key) ys)
      (both_equal eq key (remove_key (eq key) xs) key (remove_key (eq key) ys) (laws.refl key)
      (without_equal laws key xs ys e))
