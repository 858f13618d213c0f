-- Recency lists.
use Rattle.std.proofs.Common.{◌≡◌, ℕ, zero, suc, ◌+◌, ◌≤◌, ◌<◌, Bool, true, false, cond, List, [], ◌∷◌, length, take}
use Rattle.std.proofs.Common.{refl, sym, ap, ◌∙◌, arith, ◌⊎◌, inl, inr}
use Rattle.std.proofs.lemmas.Bool.{both_ways, lt-ltb, le-ltb, le-leb, lt-leb, cases_lt}
use Rattle.std.proofs.lemmas.List.{take-take}
use Rattle.std.specs.Cmp.{IsEquivalence}
use Rattle.std.specs.Prelude.{not, ◌||◌, ◌&&◌, nat_lt, nat_le}
use Rattle.std.specs.Set.{remove_key}
use Rattle.lru_theory.specs.Traces.{is_in, recency, since, distance, is_far, misses, refer, cached, faults}
use Rattle.lru_theory.specs.Traces.{past_after}

pub take_without : {K : Type 0} (test : K → Bool) (n : ℕ) (xs : List K)
    → take n (remove_key test (take (suc n) xs)) ≡ take n (remove_key test xs)
take_without test n [] = refl
take_without test n (x ∷ xs) = go (test x) n (λ m. take_without test m xs)
  where
    go : (b : Bool) (n : ℕ) → ((m : ℕ) → take m (remove_key test (take (suc m) xs)) ≡ take m (remove_key test xs))
        → take n (cond b (take n xs) (x ∷ remove_key test (take n xs))) ≡ take n (cond b xs (x ∷ remove_key test xs))
    go true n ih = take-take n n xs (omega arith)
    go false zero ih = refl
    go false (suc n) ih = ap (λ ys. x ∷ ys) (ih n)

module _ {K : Type 0} (eq : K → K → Bool) where
  pub refer_newest : (n : ℕ) (key : K) (past : List K)
      → refer eq n key (take n (recency eq past)) ≡ take n (recency eq (key ∷ past))
  refer_newest zero key past = refl
  refer_newest (suc n) key past = ap (λ ys. key ∷ ys) (take_without (eq key) n (recency eq past))

  pub cached_is : (n : ℕ) (past trace : List K)
      → cached eq n (take n (recency eq past)) trace ≡ take n (recency eq (past_after past trace))
  cached_is n past [] = refl
  cached_is n past (key ∷ trace) =
      ap (λ keys. cached eq n keys trace) (refer_newest n key past) ∙ cached_is n (key ∷ past) trace

  pub is_in_take : (key : K) (n : ℕ) (xs : List K)
      → is_in eq key (take n xs) ≡ (is_in eq key xs && nat_lt (length (since eq key xs)) n)
  is_in_take key zero [] = refl
  is_in_take key (suc n) [] = refl
  is_in_take key zero (x ∷ xs) = sym (go (is_in eq key (x ∷ xs)))
    where
      go : (b : Bool) → (b && nat_lt (length (since eq key (x ∷ xs))) 0) ≡ false
      go true = le-ltb (length (since eq key (x ∷ xs))) 0 (omega arith)
      go false = refl
  is_in_take key (suc n) (x ∷ xs) = go (eq key x) (is_in_take key n xs)
    where
      within : (b : Bool) → (b && nat_lt (length (since eq key xs)) n)
          ≡ (b && nat_lt (suc (length (since eq key xs))) (suc n))
      within false = refl
      within true = go (cases_lt (length (since eq key xs)) n)
        where
          go : (length (since eq key xs) < n) ⊎ (n ≤ length (since eq key xs))
              → nat_lt (length (since eq key xs)) n ≡ nat_lt (suc (length (since eq key xs))) (suc n)
          go (inl h) = lt-ltb (length (since eq key xs)) n h ∙ sym
              (lt-ltb (suc (length (since eq key xs))) (suc n) (omega (arith, h)))
          go (inr h) = le-ltb (length (since eq key xs)) n h ∙ sym
              (le-ltb (suc (length (since eq key xs))) (suc n) (omega (arith, h)))

      go : (b : Bool) → is_in eq key (take n xs) ≡ (is_in eq key xs && nat_lt (length (since eq key xs)) n)
          → (b || is_in eq key (take n xs))
          ≡ ((b || is_in eq key xs) && nat_lt (length (cond b [] (x ∷ since eq key xs))) (suc n))
      go true ih = sym (lt-ltb 0 (suc n) (omega arith))
      go false ih = ih ∙ within (is_in eq key xs)

pub apart_too : {K : Type 0} {eq : K → K → Bool} (laws : IsEquivalence eq) (key a x : K) → eq key a ≡ false
    → eq a x ≡ true → eq key x ≡ false
apart_too {eq = eq} laws key a x apart same =
    laws.symm key x ∙ sym (laws.congr a x key same) ∙ laws.symm a key ∙ apart

module _ {K : Type 0} {eq : K → K → Bool} (laws : IsEquivalence eq) where
  pub is_in_without : (key a : K) (xs : List K) → eq key a ≡ false
      → is_in eq key (remove_key (eq a) xs) ≡ is_in eq key xs
  is_in_without key a [] apart = refl
  is_in_without key a (x ∷ xs) apart = go (eq a x) refl (is_in_without key a xs apart)
    where
      go : (b : Bool) → eq a x ≡ b → is_in eq key (remove_key (eq a) xs) ≡ is_in eq key xs
          → is_in eq key (cond b xs (x ∷ remove_key (eq a) xs)) ≡ (eq key x || is_in eq key xs)
      go true same ih = let e : eq key x ≡ false = apart_too laws key a x apart same in rw e refl
      go false same ih = ap (λ b. eq key x || b) ih

  pub is_in_recency : (key : K) (past : List K) → is_in eq key (recency eq past) ≡ is_in eq key past
  is_in_recency key [] = refl
  is_in_recency key (x ∷ past) = go (eq key x) refl (is_in_recency key past)
    where
      go : (b : Bool) → eq key x ≡ b → is_in eq key (recency eq past) ≡ is_in eq key past
          → (b || is_in eq key (remove_key (eq x) (recency eq past))) ≡ (b || is_in eq key past)
      go true same ih = refl
      go false same ih = is_in_without key x (recency eq past) same ∙ ih

  since_without : (key a : K) (xs : List K) → eq key a ≡ false
      → since eq key (remove_key (eq a) xs) ≡ remove_key (eq a) (since eq key xs)
  since_without key a [] apart = refl
  since_without key a (x ∷ xs) apart = go (eq a x) (eq key x) refl refl (since_without key a xs apart)
    where
      go : (b d : Bool) → eq a x ≡ b → eq key x ≡ d
          → since eq key (remove_key (eq a) xs) ≡ remove_key (eq a) (since eq key xs)
          → since eq key (cond b xs (x ∷ remove_key (eq a) xs)) ≡ remove_key (eq a) (cond d [] (x ∷ since eq key xs))
      go true true same found ih = absurd (both_ways _ (apart_too laws key a x apart same) found)
      go true false same found ih = rw same refl
      go false true same found ih = rw found refl
      go false false same found ih = rw (found, same) (ap (λ ys. x ∷ ys) ih)

  pub since_recency : (key : K) (past : List K) → since eq key (recency eq past) ≡ recency eq (since eq key past)
  since_recency key [] = refl
  since_recency key (x ∷ past) = go (eq key x) refl (since_recency key past)
    where
      go : (b : Bool) → eq key x ≡ b → since eq key (recency eq past) ≡ recency eq (since eq key past)
          → cond b [] (x ∷ since eq key (remove_key (eq x) (recency eq past)))
          ≡ recency eq (cond b [] (x ∷ since eq key past))
      go true same ih = refl
      go false same ih = ap (λ ys. x ∷ ys)
          (since_without key x (recency eq past) same ∙ ap (remove_key (eq x)) ih)

  pub missing_is_far : (n : ℕ) (key : K) (past : List K)
      → not (is_in eq key (take n (recency eq past))) ≡ is_far eq n key past
  missing_is_far n key past =
      ap not (is_in_take eq key n (recency eq past))
      ∙ ap (λ b. not (b && nat_lt (length (since eq key (recency eq past))) n)) (is_in_recency key past)
      ∙ ap (λ xs. not (is_in eq key past && nat_lt (length xs) n)) (since_recency key past)
      ∙ go (is_in eq key past) (distance eq key past)
    where
      go : (b : Bool) (d : ℕ) → not (b && nat_lt d n) ≡ (not b || nat_le n d)
      go false d = refl
      go true d = elim (cases_lt d n) [
        | inl h ↦ ap not (lt-ltb d n h) ∙ sym (lt-leb n d h)
        | inr h ↦ ap not (le-ltb d n h) ∙ sym (le-leb n d h)
      ]

  pub faults_is : (n : ℕ) (past trace : List K)
      → faults eq n (take n (recency eq past)) trace ≡ misses eq n past trace
  faults_is n past [] = refl
  faults_is n past (key ∷ trace) =
      ap (λ keys. cond (is_in eq key (take n (recency eq past))) 0 1 + faults eq n keys trace) (refer_newest eq n key past)
      ∙ go (is_in eq key (take n (recency eq past))) (missing_is_far n key past) (faults_is n (key ∷ past) trace)
    where
      go : (b : Bool) → not b ≡ is_far eq n key past
          → faults eq n (take n (recency eq (key ∷ past))) trace ≡ misses eq n (key ∷ past) trace
          → cond b 0 1 + faults eq n (take n (recency eq (key ∷ past))) trace
          ≡ cond (is_far eq n key past) 1 0 + misses eq n (key ∷ past) trace
      go true e ih = rw (← e, ih) refl
      go false e ih = rw (← e, ih) refl

pub fewer_misses : {K : Type 0} (eq : K → K → Bool) (n m : ℕ) → n ≤ m → (past trace : List K)
    → misses eq m past trace ≤ misses eq n past trace
fewer_misses eq n m h past [] = omega arith
fewer_misses eq n m h past (key ∷ trace) =
    go (is_in eq key past) (distance eq key past) (fewer_misses eq n m h (key ∷ past) trace)
  where
    far : (d : ℕ) → cond (nat_le m d) 1 0 ≤ cond (nat_le n d) 1 0
    far d = elim (cases_lt d m) [
      | inl few ↦ rw (lt-leb m d few) (omega arith)
      | inr many ↦ rw (le-leb m d many, le-leb n d (omega (arith, h, many))) (omega arith)
    ]

    go : (b : Bool) (d : ℕ) → misses eq m (key ∷ past) trace ≤ misses eq n (key ∷ past) trace
        → cond (not b || nat_le m d) 1 0 + misses eq m (key ∷ past) trace
        ≤ cond (not b || nat_le n d) 1 0 + misses eq n (key ∷ past) trace
    go false d ih = omega (arith, ih)
    go true d ih = omega (arith, ih, far d)

module _ {K : Type 0} (eq : K → K → Bool) (n m : ℕ) (few : n ≤ m) where
  refer_taken : (key : K) (keys : List K) → refer eq n key (take n keys) ≡ take n (refer eq m key keys)
  refer_taken key keys = front n keys ∙ sym (take-take n m (key ∷ remove_key (eq key) keys) few)
    where
      front : (n : ℕ) (keys : List K) → refer eq n key (take n keys) ≡ take n (key ∷ remove_key (eq key) keys)
      front zero keys = refl
      front (suc n) keys = ap (λ ys. key ∷ ys) (take_without (eq key) n keys)

  pub cached_taken : (trace keys : List K) → take n (cached eq m keys trace) ≡ cached eq n (take n keys) trace
  cached_taken [] keys = refl
  cached_taken (key ∷ trace) keys =
      cached_taken trace (refer eq m key keys) ∙ ap (λ ks. cached eq n ks trace) (sym (refer_taken key keys))
