-- How a write through a `&mut` to a value changes an `OrderedTable`.
use Rattle.std.specs.Prelude.{ℕ}
use Rattle.std.specs.Borrow.{follows, Fml, RattleType, Bor, MutBor}
use Rattle.group_table.specs.declared.link.LinkType as link_type
use Rattle.ordered_table.specs.OrderedTable.{OrderedTable, with_pair}
use Rattle.ordered_table.specs.contracts.ordered.OrderedTable.{the_row as linked_row}
use Rattle.ordered_table.specs.contracts.linked.LinkedTable.{the_row as links_row}

-- after the borrow r ends, the pair in bucket b has the last value written through r
abbrev pub lends_pair : (K V N : RattleType) → link_type.Ghosts N.Denot
    → MutBor (OrderedTable K.Denot V.Denot) → ℕ → Bor K.Denot × MutBor V.Denot → Fml
lends_pair K V N links t b r = follows (linked_row K V N links) V t.ghost_name r.1.ghost_name
    (λ last. with_pair t.now b (r.0.now, last))

-- `lends_pair` for a `LinkedTable`
abbrev pub lends_linked_pair : (K V N : RattleType) → link_type.Ghosts N.Denot
    → MutBor (OrderedTable K.Denot V.Denot) → ℕ → Bor K.Denot × MutBor V.Denot → Fml
lends_linked_pair K V N links t b r = follows (links_row K V N links) V t.ghost_name r.1.ghost_name
    (λ last. with_pair t.now b (r.0.now, last))
