-- What `retain` does: it removes the pairs that its closure rejects.
use Rattle.std.specs.Prelude.{◌≡◌, Bool, true, false, List, [], ◌∷◌, Some, map}
use Rattle.std.specs.Borrow.{Bor}
use Rattle.std.specs.Fn.{Mut}
use Rattle.lru_limits.specs.Rules.{Rules}
use Rattle.lru_model.specs.State.{State, Contents, Leaves, notified_of}
use Rattle.lru_model.specs.ByHash.{Asks}
use Rattle.lru_model.specs.Callbacks.{noting, noted}

module _ {K V S : Type 0} (rules : Rules K V S) where
  -- If the closure returned true for the pair, the pair becomes the newest of the contents. If the closure returned
  -- false, the pair is removed, and the limiter is notified.
  abbrev pub answered : (K × V) × Bool → Contents K V S → Contents K V S
  answered (pair, true) c = record { pairs = pair ∷ c.pairs; limiter = c.limiter }
  answered (pair, false) c = record { pairs = c.pairs; limiter = notified_of rules (Some pair) c.limiter }

  -- The contents after a retain. The list contains each pair, newest first, with the flag that the closure returned for
  -- it. The closure was called with the oldest pair first.
  abbrev pub retained : List ((K × V) × Bool) → S → Contents K V S
  retained [] s = record { pairs = []; limiter = s }
  retained (newest ∷ older) s = answered newest (retained older s)

module _ {K V F : Type 0} (closure : Mut F (Bor K × (Bor V × Unit {0})) Bool) where
  -- f was called with these pairs, oldest first, and returned the listed flag for each; these calls change f into g
  abbrev pub Answers : F → List ((K × V) × Bool) → F → Type 0
  Answers f [] g = g ≡ f
  Answers f (newest ∷ older) g = (between : F) × Answers f older between × Asks closure between newest.0 newest.1 g

  -- The closure, which began as f, returned a boolean for each pair, oldest first. The pairs for which it returned true
  -- stay, in their order.
  pub record Retains {S H : Type 0} (rules : Rules K V S) (f : F) (old new : State K V S H) : Type 0 where
    pub asked : List ((K × V) × Bool)
    pub each : map (λ one. one.0) asked ≡ old.pairs
    pub last : F
    pub answers : Answers f asked last
    pub state : Leaves old (retained rules asked old.limiter) new

-- a retain that passes the pairs `passed` to its callback: the removed pairs as `on_removed` leaves them
abbrev pub RetainPasses : {K V S H F : Type 0} → Rules K V S → Mut F (Bor K × (Bor V × Unit {0})) Bool → F
    → State K V S H → List (K × V) → State K V S H → Type 0
RetainPasses rules closure f old passed new = Retains closure (noting rules) f (noted [] old) (noted passed new)
