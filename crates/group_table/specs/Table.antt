-- What a contract sees of a `Table`, and what holds for every table.
use Rattle.std.specs.Prelude.{◌≡◌, ℕ, ◌+◌, ◌^◌, ◌<◌, ◌≤◌, List, length, count_by, slice_set}
use Rattle.group_table.specs.Sizes.{IsBucketCount, full_capacity}
use Rattle.group_table.specs.Bucket.{Slot, BucketState, bucket_at, refilled, is_deleted, is_used}

-- the number of new entries that the table stored, and the number of entries that it moved
pub record Insertions : Type 0 where
  pub placed : ℕ
  pub moved : ℕ

-- a table: the contents of each bucket, and the counts of insertions
pub record Table (T : Type 0) : Type 0 where
  pub slots : List (Slot T)
  pub insertions : Insertions

-- the table after a write through `get_mut(b)`
abbrev pub with_entry : {T : Type 0} → Table T → ℕ → T → Table T
with_entry t b entry = record t { slots = slice_set t.slots b (refilled (bucket_at t.slots b) entry) }

-- what holds for the bucket states of every table
pub record IsTable (states : List BucketState) : Type 0 where
  pub count : IsBucketCount (length states)
  pub addressable : length states + 16 < 2 ^ 63
  pub used_within : count_by is_used states ≤ full_capacity (length states)
  pub none_deleted : length states ≤ 16 → count_by is_deleted states ≡ 0
