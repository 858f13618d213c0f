-- How an insertion and a removal change a table.
use Rattle.std.specs.Prelude.{◌≡◌, ℕ, ◌+◌, ◌-◌, ◌^◌, ◌<◌, ◌⊎◌, min, List, length, slice_set}
use Rattle.group_table.specs.Bucket.{Bucket, BucketState, empty, deleted, bucket_at, IsEmpty, bucket_states, growth_left}
use Rattle.group_table.specs.Probe.{filled, IsFirstFree}
use Rattle.group_table.specs.Neighbours.{HasEmptyNeighbours, IsHemmedIn}
use Rattle.group_table.specs.Table.{Table, Insertions}

-- the count n, raised by `more`, but at most `u64::MAX`
abbrev pub count_up : ℕ → ℕ → ℕ
count_up n more = min (n + more) (2 ^ 64 - 1)

abbrev pub no_insertions : Insertions
no_insertions = record { placed = 0; moved = 0 }

abbrev pub one_placed : Insertions → Insertions
one_placed c = record c { placed = count_up c.placed 1 }

abbrev pub some_moved : Insertions → ℕ → Insertions
some_moved c n = record c { moved = count_up c.moved n }

abbrev pub insertion_count : Insertions → ℕ
insertion_count c = count_up c.placed c.moved

-- A new entry may fill the free bucket b if growth is left, or if b is deleted.
abbrev pub MayFill : List BucketState → ℕ → Type 0
MayFill states b = (0 < growth_left states) ⊎ (bucket_at states b ≡ deleted)

-- No bucket takes a new entry with this hash. Either the table has no buckets, or no growth is left and the first free
-- bucket in a search for the hash is empty.
abbrev pub HasNoPlace : List BucketState → ℕ → Type 0
HasNoPlace states hash = (length states ≡ 0)
    ⊎ ((growth_left states ≡ 0) × (b : ℕ) × IsFirstFree states hash b × (bucket_at states b ≡ empty))

module _ {T : Type 0} where
  -- The entry filled bucket b, the first free bucket in a search for its hash. No other bucket changed.
  pub record Places (old new : Table T) (hash : ℕ) (entry : T) (b : ℕ) : Type 0 where
    pub first : IsFirstFree (bucket_states old.slots) hash b
    pub slots : new.slots ≡ slice_set old.slots b (filled hash entry)
    pub insertions : new.insertions ≡ one_placed old.insertions

module _ {A : Type 0} where
  -- If each run of 16 neighbouring buckets that includes bucket b contains an empty bucket, a removal makes b empty.
  -- Otherwise, the removal makes b deleted.
  abbrev pub Removes : List (Bucket A) → List (Bucket A) → ℕ → Type 0
  Removes old new b =
      (HasEmptyNeighbours (IsEmpty (bucket_states old)) (length (bucket_states old)) b × (new ≡ slice_set old b empty))
      ⊎ (IsHemmedIn (IsEmpty (bucket_states old)) (length (bucket_states old)) b × (new ≡ slice_set old b deleted))
