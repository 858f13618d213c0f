-- The bytes of an entry with its links.
use Rattle.std.specs.Prelude.{ℕ}
use Rattle.std.specs.Borrow.{RattleType}
use Rattle.std.specs.Mem.{type_size}
use prog.Memory.{capped}
use Rattle.ordered_table.specs.contracts.linked.Entry.{the_row}

-- what `size_of` returns for an entry of a table: a key, a value, and two links of the type N
abbrev pub entry_size : (K V N : RattleType) → ℕ
entry_size K V N = capped (type_size (the_row K V N))
