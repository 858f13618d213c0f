-- How a write through a `&mut` to an entry changes the entries of a table.
use Rattle.std.specs.Prelude.{ℕ, List, slice_set, Option, Some}
use Rattle.std.specs.Borrow.{Lends, Fml, RattleType, MutBor}
use Rattle.group_table.specs.contracts.entries.Entries.{the_row}

-- after the borrow r ends, place b holds the last value written through r
abbrev pub lends_held : (T : RattleType) → MutBor (List (Option T.Denot)) → ℕ → MutBor T.Denot → Fml
lends_held T e b r = Lends (the_row T) T e r (λ last. slice_set e.now b (Some last))
