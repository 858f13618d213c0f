-- `at` is the bucket at some position of the order, and `b` is the bucket `index` positions further.
use Rattle.std.proofs.Common.{◌≡◌, ℕ, ◌+◌, ◌-◌, length, slice_get, Some}
use Rattle.ordered_table.proofs.ordered.OrderedTable.index_of.Given as goal

abbrev pub invariant-links : goal.invariant-links
invariant-links g l =
    (i : ℕ) × (slice_get l.self.order i ≡ Some l.at) × (slice_get l.self.order (i + l.index) ≡ Some l.b)

abbrev pub decreases-links : goal.decreases-links
decreases-links g l = length l.self.order - l.index
