-- Lists that repeat one element.
use Rattle.std.proofs.Common.{◌≡◌, ℕ, zero, suc, ◌<◌, List, [], ◌∷◌, length, get_or, replicate, refl, ap, ◌∙◌, arith}

module _ {X : Type 0} where
  pub copy_at : (n k : ℕ) (x : X) → get_or (replicate n x) k x ≡ x
  copy_at zero k x = refl
  copy_at (suc n) zero x = refl
  copy_at (suc n) (suc k) x = copy_at n k x

  pub replicate-from : (xs : List X) (x d : X) → ((k : ℕ) → k < length xs → get_or xs k d ≡ x)
      → xs ≡ replicate (length xs) x
  replicate-from [] x d h = refl
  replicate-from (y ∷ xs) x d h =
      ap (λ z. z ∷ xs) (h 0 (omega arith)) ∙ ap (λ zs. x ∷ zs) (replicate-from xs x d (λ k p. h (suc k) (omega arith)))
