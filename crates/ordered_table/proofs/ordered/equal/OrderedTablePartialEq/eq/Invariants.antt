use Rattle.std.proofs.Common.{◌≡◌, ◌&&◌, length}
use Rattle.std.specs.Cmp.Lexicographic.{pointwise}
use Rattle.ordered_table.specs.OrderedTable.{pairs_of}
use Rattle.ordered_table.proofs.ordered.equal.OrderedTablePartialEq.eq.Given as goal

-- Both walks have the same number of entries left. These entries are equal if and only if all entries of the tables are
-- equal.
abbrev pub invariant-entries : goal.invariant-entries
invariant-entries g l =
    (length l.ours ≡ length l.theirs)
    × (pointwise (λ p q. g.K.PartialEq.eq p.0 q.0 && g.V.PartialEq.eq p.1 q.1) l.ours l.theirs
    ≡ pointwise (λ p q. g.K.PartialEq.eq p.0 q.0 && g.V.PartialEq.eq p.1 q.1) (pairs_of l.self) (pairs_of l.other))

abbrev pub decreases-entries : goal.decreases-entries
decreases-entries g l = length l.ours
