-- What a contract says of a drain: each step is a `PopNewest` or a `PopOldest` of the map, and the drop of the drain
-- clears the map (`cleared`).
use Rattle.std.specs.Prelude.{◌≡◌, length, Option}
use Rattle.std.specs.Borrow.{GName}
use Rattle.std.specs.Iterator.{at_most, Count}
use Rattle.lru_model.specs.State.{State}
use Rattle.schnellru.specs.declared.walk.drain.Drain.{Drain}

module _ {K V L S N H : Type 0} where
  abbrev pub drain_map : Drain K V L S N H → State K V L S
  drain_map d = d.map.now

  -- the ghost name that identifies the drain's reference to its map
  abbrev pub drain_lender : Drain K V L S N H → GName
  drain_lender d = d.map.ghost_name

  abbrev pub drain_left : Drain K V L S N H → Count
  drain_left d = at_most (length (drain_map d).pairs)

  -- this step of the drain changes the map as `pop` says
  pub record TakesBy (pop : State K V L S → Option (K × V) → State K V L S → Type 0) (old : Drain K V L S N H)
      (result : Option (K × V)) (new : Drain K V L S N H) : Type 0 where
    pub pops : pop (drain_map old) result (drain_map new)
    pub same_reference : drain_lender new ≡ drain_lender old
