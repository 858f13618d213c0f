-- How a write through a `&mut` to an entry changes the `Cells`.
use Rattle.std.specs.Prelude.{ℕ, List, slice_set, Option, Some}
use Rattle.std.specs.Borrow.{Fml, RattleType, MutBor, Lends}
use Rattle.group_table.specs.declared.cells.Cells.{Cells}
use Rattle.group_table.specs.contracts.cells.Cells.{the_row}

-- the cells c with these places
abbrev pub with_places : {T : Type 0} → Cells T → List (Option T) → Cells T
with_places c places = record { mark = c.mark; start = c.start; places = places }

-- after the borrow r ends, place b holds the last value written through r
abbrev pub lends_place : (R : RattleType) → MutBor (Cells R.Denot) → ℕ → MutBor R.Denot → Fml
lends_place R c b r = Lends (the_row R) R c r (λ last. with_places c.now (slice_set c.now.places b (Some last)))
