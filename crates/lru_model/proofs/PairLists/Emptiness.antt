use Rattle.std.proofs.Common.{◌≡◌, ◌<◌, ◌⊎◌, inl, inr, true, false, List, [], ◌∷◌, length, Some, None, refl, arith}
use Rattle.lru_model.specs.Lists.{is_empty, last}

module _ {X : Type 0} where
  pub empty-length : (xs : List X) → is_empty xs ≡ true → length xs ≡ 0
  empty-length [] e = refl
  empty-length (x ∷ xs) e = absurd cc

  pub some-length : (xs : List X) → is_empty xs ≡ false → 0 < length xs
  some-length [] e = absurd cc
  some-length (x ∷ xs) e = omega arith

  pub is_empty-some : (xs : List X) → 0 < length xs → is_empty xs ≡ false
  is_empty-some [] h = absurd (omega arith)
  is_empty-some (x ∷ xs) h = refl

  pub last_cases : (xs : List X) → (last xs ≡ None) ⊎ ((x : X) × (last xs ≡ Some x) × (0 < length xs))
  last_cases [] = inl refl
  last_cases (x ∷ xs) = inr (go x xs)
    where
      go : (y : X) (ys : List X) → (z : X) × (last (y ∷ ys) ≡ Some z) × (0 < length (y ∷ ys))
      go y [] = (y, refl, omega arith)
      go y (z ∷ zs) = let on = go z zs in (on.0, on.1, omega arith)
