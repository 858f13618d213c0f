use Rattle.std.proofs.Common.{◌≡◌, ℕ, zero, suc, ◌<◌, List, [], ◌∷◌, length, get_or, ◌⊎◌, inl, inr, refl, arith}
use Rattle.std.specs.Prelude.{Contains}

module _ {T : Type 0} where
  pub Contains-here : (c : T) (cs : List T) → Contains (c ∷ cs) c
  Contains-here c cs = (zero, omega arith, refl)

  pub Contains-later : (c x : T) (cs : List T) → Contains cs x → Contains (c ∷ cs) x
  Contains-later c x cs w = (suc w.0, omega (arith, w.1), w.2)

  cases_at : (c x : T) (cs : List T) (k : ℕ) → k < length (c ∷ cs) → get_or (c ∷ cs) k x ≡ x → (c ≡ x) ⊎ Contains cs x
  cases_at c x cs zero p e = inl e
  cases_at c x cs (suc k) p e = inr (k, omega (arith, p), e)

  pub Contains-cases : (c x : T) (cs : List T) → Contains (c ∷ cs) x → (c ≡ x) ⊎ Contains cs x
  Contains-cases c x cs w = cases_at c x cs w.0 w.1 w.2

  pub Contains-nil : (x : T) → Contains [] x → ⊥
  Contains-nil x w = absurd (omega (arith, w.1))
