use Rattle.std.proofs.Common.{ℕ, ◌-◌}
use Rattle.group_table.specs.Control.{buckets_of}
use Rattle.group_table.specs.FullBuckets.{IsAhead}
use Rattle.group_table.proofs.full_buckets.FullBuckets.next.Given as goal

abbrev pub invariant-groups : goal.invariant-groups
invariant-groups l = (from : ℕ) → IsAhead l.control l.fn.self from → IsAhead l.control l.self from

abbrev pub decreases-groups : goal.decreases-groups
decreases-groups l = buckets_of l.control - l.self.start
