-- The buckets that a walk over the full buckets of a table has not yet visited. No public contract uses this module.
use Rattle.std.specs.Prelude.{ℕ, ◌+◌, ◌<◌, ◌≤◌, ◌↔◌, List, slice_index}
use Rattle.group_table.specs.Bytes.{IsTag, IsFreeByte}
use Rattle.group_table.specs.Control.{buckets_of, IsCircle}
use Rattle.group_table.specs.Lanes.{HasLane}
use Rattle.group_table.specs.declared.full_buckets.FullBuckets.{FullBuckets}

-- The mask `walk.lanes` has a bit for each full bucket of the walk's group, except buckets before `from`. No bucket
-- between `from` and the group is full.
pub record IsAhead (control : List ℕ) (walk : FullBuckets) (from : ℕ) : Type 0 where
  pub circle : IsCircle control
  pub within : from ≤ buckets_of control
  pub reached : from ≤ walk.start + 16
  pub inside : walk.start < buckets_of control
  pub passed : (b : ℕ) → from ≤ b → b < walk.start → IsFreeByte (slice_index control b)
  pub lanes : (lane : ℕ) → HasLane walk.lanes lane
      ↔ ((lane < 16) × IsTag (slice_index control (walk.start + lane)) × (from ≤ walk.start + lane))

-- `next` is the first full bucket from `from` on. If there is none, `next` is the number of buckets.
pub record IsNextFull (control : List ℕ) (from next : ℕ) : Type 0 where
  pub bound : from ≤ next
  pub within : next ≤ buckets_of control
  pub full : next < buckets_of control → IsTag (slice_index control next)
  pub between : (b : ℕ) → from ≤ b → b < next → IsFreeByte (slice_index control b)
