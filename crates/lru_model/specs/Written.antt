-- What `for_each_mut` does: it calls a closure with each pair, and the closure may write the value of the pair.
use Rattle.std.specs.Prelude.{◌≡◌, List, [], ◌∷◌}
use Rattle.std.specs.Borrow.{Bor, MutBor}
use Rattle.std.specs.Fn.{Mut, Called}
use Rattle.lru_model.specs.State.{State}

module _ {K V F : Type 0} (closure : Mut F (Bor K × (MutBor V × Unit {0})) (Unit {0} × (MutBor V × Unit {0}))) where
  -- a call of f with the pair may replace the pair's value by w, and change f into g
  pub record Writes (f : F) (pair : K × V) (w : V) (g : F) : Type 0 where
    pub key : Bor K
    pub value : MutBor V
    pub shows : (key.now ≡ pair.0) × (value.now ≡ pair.1)
    pub left : MutBor V
    pub called : Called closure f (key, (value, tt)) (tt, (left, tt)) g
    pub writes : left.now ≡ w

  -- f was called with the pairs of the first list, in their order, and wrote the values of the second list. These calls
  -- change f into g.
  abbrev pub WritesEach : F → List (K × V) → List (K × V) → F → Type 0
  WritesEach f [] new g = (new ≡ []) × (g ≡ f)
  WritesEach f (pair ∷ pairs) new g = (w : V) × (between : F) × (rest : List (K × V)) × Writes f pair w between
      × WritesEach between pairs rest g × (new ≡ (pair.0, w) ∷ rest)

  -- the closure, which began as f, wrote the value of each pair of the map, newest first, and nothing else has changed
  pub record WritesAll {S H : Type 0} (f : F) (old new : State K V S H) : Type 0 where
    pub last : F
    pub each : WritesEach f old.pairs new.pairs last
    pub state : new ≡ record old { pairs = new.pairs }
