use Rattle.std.proofs.Common.{◌≡◌, ◌≢◌, ℕ, Bool, true, false, cond, nat_eq, List, [], ◌∷◌, length, Option}
use Rattle.std.proofs.Common.{Some, None, refl, sym, ap, ◌∙◌, subst, ne_eqb}
use Rattle.std.proofs.lemmas.Bool.{eqb-true}
use Rattle.std.proofs.lemmas.Map.{length-set_value}
use Rattle.std.specs.Map.{lookup, set_value}
use Rattle.lru_model.specs.Lists.{lookup_entry, without, after, front}
use Rattle.lru_model.proofs.CallerLemmas.{found_named, length-front_pairs}

module _ {X : Type 0} where
  others_without : (m n : ℕ) → m ≢ n → (xs : List (ℕ × X))
      → lookup (nat_eq m) (without (nat_eq n) xs) ≡ lookup (nat_eq m) xs
  others_without m n apart [] = refl
  others_without m n apart (x ∷ xs) = go (nat_eq n x.0) refl (others_without m n apart xs)
    where
      go : (b : Bool) → nat_eq n x.0 ≡ b → lookup (nat_eq m) (without (nat_eq n) xs) ≡ lookup (nat_eq m) xs
          → lookup (nat_eq m) (cond b xs (x ∷ without (nat_eq n) xs)) ≡ lookup (nat_eq m) (x ∷ xs)
      go true e later =
          let other = subst (λ k. nat_eq m k ≡ false) (eqb-true n x.0 e) (ne_eqb m n apart) in
          ap (λ b. cond b (Some x.1) (lookup (nat_eq m) xs)) (sym other)
      go false e later = ap (cond (nat_eq m x.0) (Some x.1)) later

  pub others_front : (m n : ℕ) → m ≢ n → (xs : List (ℕ × X))
      → lookup (nat_eq m) (front (nat_eq n) xs) ≡ lookup (nat_eq m) xs
  others_front m n apart xs = go (lookup_entry (nat_eq n) xs) refl
    where
      go : (o : Option (ℕ × X)) → lookup_entry (nat_eq n) xs ≡ o
          → lookup (nat_eq m) (after o (without (nat_eq n) xs)) ≡ lookup (nat_eq m) xs
      go None e = others_without m n apart xs
      go (Some p) e =
          let named = eqb-true n p.0 (found_named (nat_eq n) xs p e) in
          let other = subst (λ k. nat_eq m k ≡ false) named (ne_eqb m n apart) in
          ap (λ b. cond b (Some p.1) (lookup (nat_eq m) (without (nat_eq n) xs))) other
          ∙ others_without m n apart xs

  others_set : (m n : ℕ) → m ≢ n → (xs : List (ℕ × X)) (w : X)
      → lookup (nat_eq m) (set_value (nat_eq n) xs w) ≡ lookup (nat_eq m) xs
  others_set m n apart [] w = refl
  others_set m n apart (x ∷ xs) w = go (nat_eq n x.0) refl (others_set m n apart xs w)
    where
      go : (b : Bool) → nat_eq n x.0 ≡ b → lookup (nat_eq m) (set_value (nat_eq n) xs w) ≡ lookup (nat_eq m) xs
          → lookup (nat_eq m) (cond b ((x.0, w) ∷ xs) (x ∷ set_value (nat_eq n) xs w)) ≡ lookup (nat_eq m) (x ∷ xs)
      go true e later =
          let other = subst (λ k. nat_eq m k ≡ false) (eqb-true n x.0 e) (ne_eqb m n apart) in
          ap (λ b. cond b (Some w) (lookup (nat_eq m) xs)) other
          ∙ ap (λ b. cond b (Some x.1) (lookup (nat_eq m) xs)) (sym other)
      go false e later = ap (cond (nat_eq m x.0) (Some x.1)) later

  pub others_written : (m n : ℕ) → m ≢ n → (xs : List (ℕ × X)) (w : X)
      → lookup (nat_eq m) (set_value (nat_eq n) (front (nat_eq n) xs) w) ≡ lookup (nat_eq m) xs
  others_written m n apart xs w = others_set m n apart (front (nat_eq n) xs) w ∙ others_front m n apart xs

  pub length-written : (test : ℕ → Bool) (xs : List (ℕ × X)) (w : X)
      → length (set_value test (front test xs) w) ≡ length xs
  length-written test xs w = length-set_value test (front test xs) w ∙ length-front_pairs test xs
