-- How a further line changes the warm-up and the counted references.
use Rattle.std.proofs.Common.{◌≡◌, ℕ, ◌+◌, ◌<◌, Bool, true, false, cond, List, [], ◌∷◌, ◌++◌, length}
use Rattle.std.proofs.Common.{take, drop, ◌≤◌, zero, suc, refl, sym, ap, ◌∙◌, subst, arith}
use Rattle.std.specs.Prelude.{not, nat_lt, if◌then◌else◌}
use Rattle.std.specs.List.{filter}
use Rattle.std.proofs.lemmas.Bool.{ltb-true, ltb-false}
use Rattle.std.proofs.lemmas.List.{append-nil, length-append, take-append-le, drop-append-le, take_all, drop_all}
use Rattle.std.proofs.lemmas.List.Elements.{filter-append}
use Rattle.lru_trace.specs.Curves.{IsCurveOf, Leads}
use Rattle.lru_trace.specs.declared.curves.AnyCurve.{AnyCurve}
use Rattle.lru_trace.specs.References.{warm_long}
use Rattle.lru_trace.specs.Samples.{sampled, skipped, is_sampled}

pub filtered_more : {X : Type 0} (p : X → Bool) (xs ys : List X)
    → length (filter p (xs ++ ys)) ≡ length (filter p xs) + length (filter p ys)
filtered_more p xs ys = ap length (filter-append p xs ys) ∙ length-append (filter p xs) (filter p ys)

module _ (test : List ℕ × ℕ → Bool) where
  warm_all : (n : ℕ) (keys more : List (List ℕ × ℕ)) → length more ≤ 1 → length (filter test keys) < n
      → length (keys ++ more) ≤ warm_long test n (keys ++ more)
  warm_all zero keys more few less = absurd (omega (arith, less))
  warm_all (suc n) [] [] few less = omega arith
  warm_all (suc n) [] (x ∷ xs) few less = omega (arith, few)
  warm_all (suc n) (x ∷ keys) more few less = go (test x) less (λ m. warm_all m keys more few)
    where
      go : (b : Bool) → length (cond b (x ∷ filter test keys) (filter test keys)) < suc n
          → ((m : ℕ) → length (filter test keys) < m → length (keys ++ more) ≤ warm_long test m (keys ++ more))
          → suc (length (keys ++ more)) ≤ suc (warm_long test (cond b n (suc n)) (keys ++ more))
      go true less ih = omega (arith, ih n (omega (arith, less)))
      go false less ih = omega (arith, ih (suc n) less)

  warm_every : (n : ℕ) (keys : List (List ℕ × ℕ)) → length (filter test keys) < n → length keys ≤ warm_long test n keys
  warm_every n keys less =
      subst (λ ks. length ks ≤ warm_long test n ks) (append-nil keys) (warm_all n keys [] (omega arith) less)

  warm_same : (n : ℕ) (keys more : List (List ℕ × ℕ)) → n ≤ length (filter test keys)
      → (warm_long test n (keys ++ more) ≡ warm_long test n keys) × (warm_long test n keys ≤ length keys)
  warm_same zero keys more many = (refl, omega arith)
  warm_same (suc n) [] more many = absurd (omega (arith, many))
  warm_same (suc n) (x ∷ keys) more many = go (test x) many (λ m. warm_same m keys more)
    where
      go : (b : Bool) → suc n ≤ length (cond b (x ∷ filter test keys) (filter test keys))
          → ((m : ℕ) → m ≤ length (filter test keys)
          → (warm_long test m (keys ++ more) ≡ warm_long test m keys) × (warm_long test m keys ≤ length keys))
          → (suc (warm_long test (cond b n (suc n)) (keys ++ more)) ≡ suc (warm_long test (cond b n (suc n)) keys))
          × (suc (warm_long test (cond b n (suc n)) keys) ≤ suc (length keys))
      go true many ih = let h = ih n (omega (arith, many)) in (ap suc h.0, omega (arith, h.1))
      go false many ih = let h = ih (suc n) many in (ap suc h.0, omega (arith, h.1))

  pub kept_and_left : (keys : List (List ℕ × ℕ))
      → length (filter (λ key. not (test key)) keys) + length (filter test keys) ≡ length keys
  kept_and_left [] = refl
  kept_and_left (x ∷ keys) = go (test x) (kept_and_left keys)
    where
      go : (b : Bool) → length (filter (λ key. not (test key)) keys) + length (filter test keys) ≡ length keys
          → length (cond (not b) (x ∷ filter (λ key. not (test key)) keys) (filter (λ key. not (test key)) keys))
          + length (cond b (x ∷ filter test keys) (filter test keys)) ≡ suc (length keys)
      go true ih = omega (arith, ih)
      go false ih = omega (arith, ih)

pub skipped_more : (bits n : ℕ) (test : List ℕ × ℕ → Bool) (keys more : List (List ℕ × ℕ)) → length more ≤ 1 → (warm : Bool)
    → warm ≡ nat_lt (length (filter test keys)) n
    → skipped bits (filter test (drop (warm_long test n (keys ++ more)) (keys ++ more)))
    ≡ skipped bits (filter test (drop (warm_long test n keys) keys)) + (if warm then 0 else skipped bits (filter test more))
skipped_more bits n test keys more few true is =
    let less = ltb-true (length (filter test keys)) n (sym is) in
    ap (λ ks. skipped bits (filter test ks))
    (drop_all (warm_long test n (keys ++ more)) (keys ++ more) (warm_all test n keys more few less))
    ∙ ap (λ ks. skipped bits (filter test ks) + 0)
    (sym (drop_all (warm_long test n keys) keys (warm_every test n keys less)))
skipped_more bits n test keys more few false is =
    let same = warm_same test n keys more (ltb-false (length (filter test keys)) n (sym is)) in
    ap (λ w. skipped bits (filter test (drop w (keys ++ more)))) same.0
    ∙ ap (λ ks. skipped bits (filter test ks)) (drop-append-le (warm_long test n keys) keys more same.1)
    ∙ ap (skipped bits) (filter-append test (drop (warm_long test n keys) keys) more)
    ∙ filtered_more (λ key. not (is_sampled bits key.0)) (filter test (drop (warm_long test n keys) keys)) (filter test more)

module _ (bits n : ℕ) (test : List ℕ × ℕ → Bool) (keys more : List (List ℕ × ℕ)) (few : length more ≤ 1) (old : AnyCurve)
    (Holds : List (List ℕ × ℕ) → List (List ℕ × ℕ) → Type 0) (is_warm : Bool)
    (is : is_warm ≡ nat_lt (length (filter test keys)) n) (follows : Leads is_warm old (sampled bits more) Holds) where
  abbrev w : ℕ
  w = warm_long test n keys

  abbrev next : ℕ
  next = warm_long test n (keys ++ more)

  pub one_more : IsCurveOf (sampled bits (take w keys)) (sampled bits (drop w keys)) old
      → Holds (sampled bits (take next (keys ++ more))) (sampled bits (drop next (keys ++ more)))
  one_more of = go is_warm refl
    where
      go : (b : Bool) → is_warm ≡ b
          → Holds (sampled bits (take next (keys ++ more))) (sampled bits (drop next (keys ++ more)))
      go true e =
          let less = ltb-true (length (filter test keys)) n (sym is ∙ e) in
          let short = warm_all test n keys more few less in
          let all = warm_every test n keys less in
          subst (λ ks. Holds (sampled bits ks) (sampled bits (drop next (keys ++ more))))
          (sym (take_all next (keys ++ more) short))
          (subst (λ ks. Holds (sampled bits (keys ++ more)) (sampled bits ks))
          (sym (drop_all next (keys ++ more) short))
          (subst (λ ks. Holds ks []) (sym (filter-append (λ key. is_sampled bits key.0) keys more))
          (follows.warmed e (sampled bits keys)
          (subst (λ ks. IsCurveOf (sampled bits ks) [] old) (take_all w keys all)
          (subst (λ ks. IsCurveOf (sampled bits (take w keys)) (sampled bits ks) old) (drop_all w keys all) of)))))
      go false e =
          let same = warm_same test n keys more (ltb-false (length (filter test keys)) n (sym is ∙ e)) in
          subst (λ m. Holds (sampled bits (take m (keys ++ more))) (sampled bits (drop m (keys ++ more)))) (sym same.0)
          (subst (λ ks. Holds (sampled bits ks) (sampled bits (drop w (keys ++ more))))
          (sym (take-append-le w keys more same.1))
          (subst (λ ks. Holds (sampled bits (take w keys)) (sampled bits ks))
          (sym (drop-append-le w keys more same.1))
          (subst (λ ks. Holds (sampled bits (take w keys)) ks)
          (sym (filter-append (λ key. is_sampled bits key.0) (drop w keys) more))
          (follows.counted e (sampled bits (take w keys)) (sampled bits (drop w keys)) of))))
