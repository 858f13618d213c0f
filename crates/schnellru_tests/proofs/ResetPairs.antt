use Rattle.std.proofs.Common.{◌≡◌, ℕ, zero, suc, ◌≤◌, ◌+◌, List, [], ◌∷◌, map, length, refl, ap, arith, ◌∙◌}
use Rattle.lru_model.specs.Lists.{set_value_at}

module _ {K : Type 0} where
  abbrev pub reset_first : ℕ → List (K × ℕ) → List (K × ℕ)
  reset_first zero pairs = pairs
  reset_first (suc n) [] = []
  reset_first (suc n) (pair ∷ pairs) = (pair.0, 0) ∷ reset_first n pairs

  next : (n : ℕ) (pairs : List (K × ℕ)) → set_value_at (reset_first n pairs) n 0 ≡ reset_first (suc n) pairs
  next zero [] = refl
  next zero (pair ∷ pairs) = refl
  next (suc n) [] = refl
  next (suc n) (pair ∷ pairs) = ap (λ ps. (pair.0, 0) ∷ ps) (next n pairs)

  pub reset_next : (n : ℕ) (pairs : List (K × ℕ)) → set_value_at (reset_first n pairs) n 0 ≡ reset_first (n + 1) pairs
  reset_next n pairs = next n pairs ∙ ap (λ k. reset_first k pairs) {x = suc n} {y = n + 1} (omega arith)

  pub reset_all : (n : ℕ) (pairs : List (K × ℕ)) → length pairs ≤ n
      → reset_first n pairs ≡ map (λ pair. (pair.0, 0)) pairs
  reset_all zero [] few = refl
  reset_all zero (pair ∷ pairs) few = absurd (omega (arith, few))
  reset_all (suc n) [] few = refl
  reset_all (suc n) (pair ∷ pairs) few = ap (λ ps. (pair.0, 0) ∷ ps) (reset_all n pairs (omega (arith, few)))
