-- After n steps `at` is the bucket at index n.
use Rattle.std.proofs.Common.{◌≡◌, Some, slice_get}
use Rattle.ordered_table.proofs.ordered.OrderedTable.at_index.Given as goal

abbrev pub invariant-links : goal.invariant-links
invariant-links g l = slice_get l.self.order l.counter ≡ Some l.at
