-- What is in the buckets of a table: states and entries (`Slot`), or only states (`BucketState`).
use Rattle.std.specs.Prelude.{◌≡◌, ℕ, ◌-◌, if◌then◌else◌, Bool, true, false, List, length, map, count_by}
use Rattle.std.specs.Prelude.{slice_index_or, nat_eq, Option, Some, None, IsTrue}
use Rattle.group_table.specs.Sizes.{full_capacity}

-- A deleted bucket once held an entry. A search goes on past a deleted bucket.
pub data Bucket (A : Type 0) : Type 0 where
  empty deleted : Bucket A
  full : A → Bucket A

-- an entry, and the tag of the entry's hash
pub record Tagged (T : Type 0) : Type 0 where
  pub tag : ℕ
  pub entry : T

abbrev pub Slot : Type 0 → Type 0
Slot T = Bucket (Tagged T)

abbrev pub BucketState : Type 0
BucketState = Bucket (Unit {0})

module _ {A : Type 0} where
  abbrev pub is_full : Bucket A → Bool
  is_full empty = false
  is_full deleted = false
  is_full (full held) = true

  abbrev pub is_deleted : Bucket A → Bool
  is_deleted empty = false
  is_deleted deleted = true
  is_deleted (full held) = false

  abbrev pub is_used : Bucket A → Bool
  is_used empty = false
  is_used deleted = true
  is_used (full held) = true

  abbrev pub bucket_at : List (Bucket A) → ℕ → Bucket A
  bucket_at buckets b = slice_index_or buckets b empty

  abbrev pub IsFull : List (Bucket A) → ℕ → Type 0
  IsFull buckets b = IsTrue (is_full (bucket_at buckets b))

  abbrev pub IsEmpty : List (Bucket A) → ℕ → Type 0
  IsEmpty buckets b = bucket_at buckets b ≡ empty

  abbrev pub entry_count : List (Bucket A) → ℕ
  entry_count buckets = count_by is_full buckets

  abbrev pub bucket_state : Bucket A → BucketState
  bucket_state empty = empty
  bucket_state deleted = deleted
  bucket_state (full held) = full tt

  abbrev pub bucket_states : List (Bucket A) → List BucketState
  bucket_states buckets = map bucket_state buckets

-- how many empty buckets may still be filled
unfoldable pub growth_left : List BucketState → ℕ
growth_left states = full_capacity (length states) - count_by is_used states

abbrev pub growth_left_at : List BucketState → ℕ → ℕ
growth_left_at states b = if is_used (bucket_at states b) then 0 else 1

module _ {T : Type 0} where
  abbrev pub entry_of : Slot T → Option T
  entry_of empty = None
  entry_of deleted = None
  entry_of (full held) = Some held.entry

  abbrev pub entry_at : List (Slot T) → ℕ → Option T
  entry_at slots b = entry_of (bucket_at slots b)

  abbrev pub has_tag : ℕ → Slot T → Bool
  has_tag tag empty = false
  has_tag tag deleted = false
  has_tag tag (full held) = nat_eq held.tag tag

  abbrev pub refilled : Slot T → T → Slot T
  refilled empty entry = empty
  refilled deleted entry = deleted
  refilled (full held) entry = full (record held { entry = entry })
