use Rattle.std.proofs.Common.{◌≡◌, ℕ, ◌+◌, ◌-◌, ◌<◌, Bool, true, false, cond, List, [], ◌∷◌}
use Rattle.std.proofs.Common.{refl, sym, ap, ◌∙◌, arith, inl, inr}
use Rattle.std.proofs.lemmas.Bool.{lt-ltb, le-ltb, le-leb, lt-leb, cases_lt}
use Rattle.std.proofs.lemmas.List.Sums.{sum_by-cons}
use Rattle.std.specs.Cmp.{IsEquivalence}
use Rattle.std.specs.Prelude.{not, ◌||◌, ◌&&◌, nat_lt, nat_le, sum_by}
use Rattle.std.specs.Set.{remove_key}
use Rattle.lru_theory.specs.Traces.{is_in, recency, since, past_after}
use Rattle.lru_theory.specs.Budgets.{affordable, refer_within, cached_within, faults_within, EqualCosts, needs}
use Rattle.lru_theory.specs.Budgets.{is_far_within, misses_within}
use Rattle.lru_theory.proofs.Lists.{is_in_recency, since_recency}

module _ {K : Type 0} (cost : K → ℕ) where
  afforded_twice : (n : ℕ) (xs : List K) → affordable cost n (affordable cost n xs) ≡ affordable cost n xs
  afforded_twice n [] = refl
  afforded_twice n (x ∷ xs) = elim (cases_lt n (cost x)) [
    | inl dear ↦ rw (lt-leb (cost x) n dear) refl
    | inr cheap ↦ rw (le-leb (cost x) n cheap, le-leb (cost x) n cheap)
        (ap (λ ys. x ∷ ys) (afforded_twice (n - cost x) xs))
  ]

  -- If the key that is taken out costs c, the rest with the limit n needs only the keys within n + c.
  afforded_without : (test : K → Bool) (c n : ℕ) → ((x : K) → test x ≡ true → cost x ≡ c) → (xs : List K)
      → affordable cost n (remove_key test (affordable cost (n + c) xs)) ≡ affordable cost n (remove_key test xs)
  afforded_without test c n same [] = refl
  afforded_without test c n same (x ∷ xs) = elim (cases_lt (n + c) (cost x)) [
    | inl dear ↦ rw (lt-leb (cost x) (n + c) dear) (past (test x) refl dear)
    | inr cheap ↦ rw (le-leb (cost x) (n + c) cheap)
        (here (test x) refl (afforded_without test c (n - cost x) same xs))
  ]
    where
      past : (b : Bool) → test x ≡ b → n + c < cost x
          → [] ≡ affordable cost n (cond b xs (x ∷ remove_key test xs))
      past true e dear = absurd (omega (arith, same x e, dear))
      past false e dear = rw (lt-leb (cost x) n (omega (arith, dear))) refl

      here : (b : Bool) → test x ≡ b
          → affordable cost (n - cost x) (remove_key test (affordable cost (n - cost x + c) xs))
          ≡ affordable cost (n - cost x) (remove_key test xs)
          → affordable cost n (cond b (affordable cost (n + c - cost x) xs)
          (x ∷ remove_key test (affordable cost (n + c - cost x) xs)))
          ≡ affordable cost n (cond b xs (x ∷ remove_key test xs))
      here true e ih =
          let left : n + c - cost x ≡ n = omega (arith, same x e) in
          ap (λ m. affordable cost n (affordable cost m xs)) left ∙ afforded_twice n xs
      here false e ih = elim (cases_lt n (cost x)) [
        | inl dear ↦ rw (lt-leb (cost x) n dear) refl
        | inr cheap ↦
            let left : n + c - cost x ≡ n - cost x + c = omega (arith, cheap) in
            rw (le-leb (cost x) n cheap) (ap (λ ys. x ∷ ys)
            (ap (λ m. affordable cost (n - cost x) (remove_key test (affordable cost m xs))) left ∙ ih))
      ]

module _ {K : Type 0} (eq : K → K → Bool) (cost : K → ℕ) (same : EqualCosts eq cost) where
  referred_is : (n : ℕ) (key : K) (past : List K)
      → refer_within eq cost n key (affordable cost n (recency eq past)) ≡ affordable cost n (recency eq (key ∷ past))
  referred_is n key past = elim (cases_lt n (cost key)) [
    | inl dear ↦ rw (lt-leb (cost key) n dear) refl
    | inr cheap ↦
        let whole : n ≡ n - cost key + cost key = omega (arith, cheap) in
        rw (le-leb (cost key) n cheap) (ap (λ ys. key ∷ ys)
        (ap (λ m. affordable cost (n - cost key) (remove_key (eq key) (affordable cost m (recency eq past)))) whole
        ∙ afforded_without cost (eq key) (cost key) (n - cost key) (λ x e. sym (same key x e)) (recency eq past)))
  ]

  pub within_is : (n : ℕ) (past trace : List K)
      → cached_within eq cost n (affordable cost n (recency eq past)) trace
      ≡ affordable cost n (recency eq (past_after past trace))
  within_is n past [] = refl
  within_is n past (key ∷ trace) =
      ap (λ keys. cached_within eq cost n keys trace) (referred_is n key past) ∙ within_is n (key ∷ past) trace

  is_in_afforded : (n : ℕ) (key : K) (xs : List K)
      → is_in eq key (affordable cost n xs) ≡ (is_in eq key xs && nat_le (cost key + sum_by cost (since eq key xs)) n)
  is_in_afforded n key [] = refl
  is_in_afforded n key (x ∷ xs) = go (eq key x) refl (is_in_afforded (n - cost x) key xs)
    where
      none : (b : Bool) (m : ℕ) → n < m → false ≡ (b && nat_le m n)
      none true m h = sym (lt-leb m n h)
      none false m h = refl

      go : (b : Bool) → eq key x ≡ b
          → is_in eq key (affordable cost (n - cost x) xs)
          ≡ (is_in eq key xs && nat_le (cost key + sum_by cost (since eq key xs)) (n - cost x))
          → is_in eq key (affordable cost n (x ∷ xs))
          ≡ ((b || is_in eq key xs) && nat_le (cost key + sum_by cost (cond b [] (x ∷ since eq key xs))) n)
      go true e ih = elim (cases_lt n (cost x)) [
        | inl dear ↦ rw (lt-leb (cost x) n dear) (none true (cost key + 0) (omega (arith, dear, same key x e)))
        | inr cheap ↦ rw (le-leb (cost x) n cheap, e)
            (sym (le-leb (cost key + 0) n (omega (arith, cheap, same key x e))))
      ]
      go false e ih =
          let all = sum_by-cons cost x (since eq key xs) in
          elim (cases_lt n (cost x)) [
            | inl dear ↦ rw (lt-leb (cost x) n dear)
                (none (is_in eq key xs) (cost key + sum_by cost (x ∷ since eq key xs)) (omega (arith, dear, all)))
            | inr cheap ↦ rw (le-leb (cost x) n cheap, e) (ih
                ∙ ap (λ b. is_in eq key xs && b) (elim (cases_lt n (cost key + sum_by cost (x ∷ since eq key xs))) [
                  | inl far ↦ lt-leb (cost key + sum_by cost (since eq key xs)) (n - cost x) (omega (arith, far, all, cheap))
                      ∙ sym (lt-leb (cost key + sum_by cost (x ∷ since eq key xs)) n far)
                  | inr near ↦ le-leb (cost key + sum_by cost (since eq key xs)) (n - cost x) (omega (arith, near, all))
                      ∙ sym (le-leb (cost key + sum_by cost (x ∷ since eq key xs)) n near)
                ]))
          ]

module _ {K : Type 0} {eq : K → K → Bool} (laws : IsEquivalence eq) (cost : K → ℕ) (same : EqualCosts eq cost) where
  missing_within : (n : ℕ) (key : K) (past : List K)
      → not (is_in eq key (affordable cost n (recency eq past))) ≡ is_far_within eq cost n key past
  missing_within n key past =
      ap not (is_in_afforded eq cost same n key (recency eq past))
      ∙ ap (λ b. not (b && nat_le (cost key + sum_by cost (since eq key (recency eq past))) n))
      (is_in_recency laws key past)
      ∙ ap (λ xs. not (is_in eq key past && nat_le (cost key + sum_by cost xs) n)) (since_recency laws key past)
      ∙ go (is_in eq key past) (needs eq cost key past)
    where
      go : (b : Bool) (m : ℕ) → not (b && nat_le m n) ≡ (not b || nat_lt n m)
      go false m = refl
      go true m = elim (cases_lt n m) [
        | inl h ↦ ap not (lt-leb m n h) ∙ sym (lt-ltb n m h)
        | inr h ↦ ap not (le-leb m n h) ∙ sym (le-ltb n m h)
      ]

  pub faults_within_is : (n : ℕ) (past trace : List K)
      → faults_within eq cost n (affordable cost n (recency eq past)) trace ≡ misses_within eq cost n past trace
  faults_within_is n past [] = refl
  faults_within_is n past (key ∷ trace) =
      ap (λ keys. cond (is_in eq key (affordable cost n (recency eq past))) 0 1 + faults_within eq cost n keys trace)
      (referred_is eq cost same n key past)
      ∙ go (is_in eq key (affordable cost n (recency eq past))) (missing_within n key past)
      (faults_within_is n (key ∷ past) trace)
    where
      go : (b : Bool) → not b ≡ is_far_within eq cost n key past
          → faults_within eq cost n (affordable cost n (recency eq (key ∷ past))) trace
          ≡ misses_within eq cost n (key ∷ past) trace
          → cond b 0 1 + faults_within eq cost n (affordable cost n (recency eq (key ∷ past))) trace
          ≡ cond (is_far_within eq cost n key past) 1 0 + misses_within eq cost n (key ∷ past) trace
      go true e ih = rw (← e, ih) refl
      go false e ih = rw (← e, ih) refl
