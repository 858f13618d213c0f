use Rattle.std.proofs.Common.{◌≡◌, ℕ, ◌+◌, ◌≤◌, ◌<◌, Bool, true, false, cond, List, [], ◌∷◌, ◌++◌, length}
use Rattle.std.proofs.Common.{refl, sym, ap, ◌∙◌, arith, ◌⊎◌, inl, inr}
use Rattle.std.proofs.lemmas.Bool.{both_ways, eq-eqb, eqb-true}
use Rattle.std.proofs.lemmas.Cmp.{nat_eq_equiv}
use Rattle.std.proofs.lemmas.List.{get_or_append_left, get_or_push}
use Rattle.std.proofs.lemmas.List.Sums.{sum_by-cons}
use Rattle.std.specs.Prelude.{◌||◌, nat_eq, sum_by}
use Rattle.std.specs.Set.{remove_key}
use Rattle.lru_theory.specs.Traces.{is_in, since}
use Rattle.lru_trace.specs.Counted.{AreAdded}
use Rattle.lru_trace.specs.Slots.{Recent, weight_in}
use Rattle.lru_theory.proofs.Nexts.{without_absent}

module _ (size : ℕ → ℕ) (key : ℕ) where
  pub needs_few : (xs : List ℕ) → is_in nat_eq key xs ≡ true → size key + sum_by size (since nat_eq key xs) ≤ sum_by size xs
  needs_few [] e = absurd cc
  needs_few (x ∷ xs) e = go (nat_eq key x) refl e (needs_few xs)
    where
      go : (b : Bool) → nat_eq key x ≡ b → (b || is_in nat_eq key xs) ≡ true
          → (is_in nat_eq key xs ≡ true → size key + sum_by size (since nat_eq key xs) ≤ sum_by size xs)
          → size key + sum_by size (cond b [] (x ∷ since nat_eq key xs)) ≤ sum_by size (x ∷ xs)
      go true same e ih = omega (arith, sum_by-cons size x xs, ap size (eqb-true key x same))
      go false same e ih = omega (arith, sum_by-cons size x xs, sum_by-cons size x (since nat_eq key xs), ih e)

  pub moved_sum : (xs : List ℕ) → is_in nat_eq key xs ≡ true
      → sum_by size (key ∷ remove_key (nat_eq key) xs) ≡ sum_by size xs
  moved_sum xs e = omega (arith, sum_by-cons size key (remove_key (nat_eq key) xs), without xs e)
    where
      without : (xs : List ℕ) → is_in nat_eq key xs ≡ true
          → size key + sum_by size (remove_key (nat_eq key) xs) ≡ sum_by size xs
      without [] e = absurd cc
      without (x ∷ xs) e = go (nat_eq key x) refl e (without xs)
        where
          go : (b : Bool) → nat_eq key x ≡ b → (b || is_in nat_eq key xs) ≡ true
              → (is_in nat_eq key xs ≡ true → size key + sum_by size (remove_key (nat_eq key) xs) ≡ sum_by size xs)
              → size key + sum_by size (cond b xs (x ∷ remove_key (nat_eq key) xs)) ≡ sum_by size (x ∷ xs)
          go true same e ih = omega (arith, sum_by-cons size x xs, ap size (eqb-true key x same))
          go false same e ih = omega (
            arith,
            sum_by-cons size x xs,
            sum_by-cons size x (remove_key (nat_eq key) xs),
            ih e,
          )

module _ (key other : ℕ) where
  pub moved_in : (xs : List ℕ) → is_in nat_eq other xs ≡ true
      → is_in nat_eq other (key ∷ remove_key (nat_eq key) xs) ≡ true
  moved_in xs e = go (nat_eq other key) refl
    where
      later : nat_eq other key ≡ false → (xs : List ℕ) → is_in nat_eq other xs ≡ true
          → is_in nat_eq other (remove_key (nat_eq key) xs) ≡ true
      later apart [] e = absurd cc
      later apart (x ∷ xs) e = test (nat_eq key x) refl (nat_eq other x) refl e (later apart xs)
        where
          test : (b : Bool) → nat_eq key x ≡ b → (d : Bool) → nat_eq other x ≡ d → (d || is_in nat_eq other xs) ≡ true
              → (is_in nat_eq other xs ≡ true → is_in nat_eq other (remove_key (nat_eq key) xs) ≡ true)
              → is_in nat_eq other (cond b xs (x ∷ remove_key (nat_eq key) xs)) ≡ true
          test true same true found e ih =
              let is : nat_eq other key ≡ true = eq-eqb other key (eqb-true other x found ∙ sym (eqb-true key x same)) in
              absurd (both_ways _ apart is)
          test true same false found e ih = e
          test false same true found e ih = rw found refl
          test false same false found e ih = rw found (ih e)

      go : (b : Bool) → nat_eq other key ≡ b → (b || is_in nat_eq other (remove_key (nat_eq key) xs)) ≡ true
      go true same = refl
      go false apart = later apart xs e

  pub was_in : (xs : List ℕ) → is_in nat_eq other (key ∷ remove_key (nat_eq key) xs) ≡ true
      → (other ≡ key) ⊎ (is_in nat_eq other xs ≡ true)
  was_in xs e = go (nat_eq other key) refl e
    where
      less : (xs : List ℕ) → is_in nat_eq other (remove_key (nat_eq key) xs) ≡ true → is_in nat_eq other xs ≡ true
      less [] e = e
      less (x ∷ xs) e = test (nat_eq key x) (nat_eq other x) refl e (less xs)
        where
          test : (b d : Bool) → nat_eq other x ≡ d → is_in nat_eq other (cond b xs (x ∷ remove_key (nat_eq key) xs)) ≡ true
              → (is_in nat_eq other (remove_key (nat_eq key) xs) ≡ true → is_in nat_eq other xs ≡ true)
              → (d || is_in nat_eq other xs) ≡ true
          test b true found e ih = refl
          test true false found e ih = e
          test false false found e ih = ih (sym (ap (λ b. b || is_in nat_eq other (remove_key (nat_eq key) xs)) found) ∙ e)

      go : (b : Bool) → nat_eq other key ≡ b → (b || is_in nat_eq other (remove_key (nat_eq key) xs)) ≡ true
          → (other ≡ key) ⊎ (is_in nat_eq other xs ≡ true)
      go true same e = inl (eqb-true other key same)
      go false apart e = inr (less xs e)

pub all_added : (key : ℕ) (old new : Recent) → AreAdded old → new.recency ≡ key ∷ remove_key (nat_eq key) old.recency
    → key < new.keys → old.keys ≤ new.keys → AreAdded new
all_added key old new within recency inside more = λ n e. elim
    (was_in key n old.recency (ap (is_in nat_eq n) (sym recency) ∙ e)) [
      | inl same ↦ omega (arith, same)
      | inr h ↦ omega (arith, within n h)
    ]

pub absent : (n : ℕ) (xs : List ℕ) → ((m : ℕ) → is_in nat_eq m xs ≡ true → m < n) → is_in nat_eq n xs ≡ false
absent n xs within = go (is_in nat_eq n xs) refl
  where
    go : (b : Bool) → is_in nat_eq n xs ≡ b → b ≡ false
    go false e = refl
    go true e = absurd (omega (arith, within n e))

pub sum_alike : (f g : ℕ → ℕ) (xs : List ℕ) → ((n : ℕ) → is_in nat_eq n xs ≡ true → f n ≡ g n) → sum_by f xs ≡ sum_by g xs
sum_alike f g [] same = refl
sum_alike f g (x ∷ xs) same = omega (
  arith,
  sum_by-cons f x xs,
  sum_by-cons g x xs,
  same x (ap (λ b. b || is_in nat_eq x xs) (eq-eqb x x refl)),
  sum_alike f g xs (λ n e. same n (later n e)),
)
  where
    later : (n : ℕ) → is_in nat_eq n xs ≡ true → (nat_eq n x || is_in nat_eq n xs) ≡ true
    later n e = go (nat_eq n x) e
      where
        go : (b : Bool) → is_in nat_eq n xs ≡ true → (b || is_in nat_eq n xs) ≡ true
        go true e = refl
        go false e = e

module _ (sizes : List ℕ) (bytes : ℕ) where
  pub size_kept : (n : ℕ) → n < length sizes → weight_in (sizes ++ bytes ∷ []) n ≡ weight_in sizes n
  size_kept n h = get_or_append_left sizes (bytes ∷ []) 1 n h

  pub size_added : (n : ℕ) → n ≡ length sizes → weight_in (sizes ++ bytes ∷ []) n ≡ bytes
  size_added n e = get_or_push sizes bytes 1 n (sym e)

  module _ (xs : List ℕ) (within : (n : ℕ) → is_in nat_eq n xs ≡ true → n < length sizes) where
    pub sum_kept : sum_by (weight_in (sizes ++ bytes ∷ [])) xs ≡ sum_by (weight_in sizes) xs
    sum_kept = sum_alike (weight_in (sizes ++ bytes ∷ [])) (weight_in sizes) xs (λ n e. size_kept n (within n e))

    pub sum_added : (n : ℕ) → n ≡ length sizes
        → sum_by (weight_in (sizes ++ bytes ∷ [])) (n ∷ remove_key (nat_eq n) xs) ≡ sum_by (weight_in sizes) xs + bytes
    sum_added n e = omega (
      arith,
      sum_by-cons (weight_in (sizes ++ bytes ∷ [])) n (remove_key (nat_eq n) xs),
      ap (sum_by (weight_in (sizes ++ bytes ∷ [])))
          (without_absent nat_eq_equiv n xs (ap (λ m. is_in nat_eq m xs) e ∙ absent (length sizes) xs within)),
      sum_kept,
      size_added n e,
    )
