use Rattle.std.proofs.Common.{◌≡◌, ℕ, ◌≤◌, Bool, true, false, List, [], ◌∷◌, ◌++◌, subst, arith}
use Rattle.std.proofs.lemmas.List.{append_assoc}
use Rattle.std.specs.Prelude.{map}
use Rattle.lru_limits.specs.Rules.{Rules}
use Rattle.lru_model.specs.State.{Contents}
use Rattle.lru_model.specs.Retains.{retained}
use Rattle.lru_model.proofs.Theorems.Moves.{Keeps}
use Rattle.lru_model.proofs.Theorems.Sums.{total}

module _ {K V S : Type 0} (rules : Rules K V S) where
  pub total-retained : (f : K × V → ℕ) (asked : List ((K × V) × Bool)) (s : S)
      → total f (retained rules asked s).pairs ≤ total f (map (λ one. one.0) asked)
  total-retained f [] s = omega arith
  total-retained f ((pair, true) ∷ older) s = omega (arith, total-retained f older s)
  total-retained f ((pair, false) ∷ older) s = omega (arith, total-retained f older s)

module _ {K V S : Type 0} (rules : Rules K V S) (R : Contents K V S → Contents K V S → Type 0) (k : Keeps rules R) where
  abbrev Stays : List (K × V) → List ((K × V) × Bool) → S → Type 0
  Stays newer asked s = R (record { pairs = newer ++ map (λ one. one.0) asked; limiter = s })
      (record { pairs = newer ++ (retained rules asked s).pairs; limiter = (retained rules asked s).limiter })

  before_rest : (newer : List (K × V)) (pair : K × V) (older : List ((K × V) × Bool)) (s : S) →
      Stays (newer ++ pair ∷ []) older s →
      R (record { pairs = newer ++ pair ∷ map (λ one. one.0) older; limiter = s }) (record {
        pairs = newer ++ pair ∷ (retained rules older s).pairs;
        limiter = (retained rules older s).limiter;
      })
  before_rest newer pair older s stays = let left = retained rules older s in
      subst (λ l. R (record { pairs = newer ++ pair ∷ map (λ one. one.0) older; limiter = s })
      (record { pairs = l; limiter = left.limiter })) (append_assoc newer (pair ∷ []) left.pairs)
      (subst (λ l. R (record { pairs = l; limiter = s })
      (record { pairs = (newer ++ pair ∷ []) ++ left.pairs; limiter = left.limiter }))
      (append_assoc newer (pair ∷ []) (map (λ one. one.0) older)) stays)

  stays_behind : (newer : List (K × V)) (asked : List ((K × V) × Bool)) (s : S) → Stays newer asked s
  stays_behind newer [] s = k.way.self _
  stays_behind newer ((pair, true) ∷ older) s =
      before_rest newer pair older s (stays_behind (newer ++ pair ∷ []) older s)
  stays_behind newer ((pair, false) ∷ older) s =
      k.way.trans (before_rest newer pair older s (stays_behind (newer ++ pair ∷ []) older s))
      (k.dropped newer (retained rules older s).pairs pair (retained rules older s).limiter)

  pub retained_keeps : (asked : List ((K × V) × Bool)) (c : Contents K V S) → map (λ one. one.0) asked ≡ c.pairs
      → R c (retained rules asked c.limiter)
  retained_keeps asked c each = subst (λ l. R (record { pairs = l; limiter = c.limiter })
      (retained rules asked c.limiter)) each (stays_behind [] asked c.limiter)
