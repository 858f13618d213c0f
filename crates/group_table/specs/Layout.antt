-- How the fields of a `Table` represent its buckets. No public contract uses this module.
use Rattle.std.specs.Prelude.{◌≡◌, ℕ, ◌+◌, ◌-◌, ◌^◌, ◌<◌, ◌≤◌, ◌⊎◌, max, List, [], ◌∷◌, length, Option, Some, None}
use Rattle.std.specs.Prelude.{if◌then◌else◌, nat_lt, nat_eq, slice_index, slice_index_or, slice_set, count_by}
use Rattle.group_table.specs.Sizes.{IsPowerFromFour, full_capacity}
use Rattle.group_table.specs.Bytes.{empty_byte, deleted_byte, IsTag}
use Rattle.group_table.specs.Bucket.{Slot, BucketState, empty, deleted, full, bucket_at, is_used, bucket_states}

module _ {T : Type 0} where
  abbrev pub byte_of : Slot T → ℕ
  byte_of empty = empty_byte
  byte_of deleted = deleted_byte
  byte_of (full held) = held.tag

  -- the bucket with this control byte and this entry
  abbrev pub slot_of : ℕ → Option T → Slot T
  slot_of byte (Some entry) = full (record { tag = byte; entry = entry })
  slot_of byte None = if nat_eq byte deleted_byte then deleted else empty

  abbrev pub slots_of : List ℕ → List (Option T) → List (Slot T)
  slots_of bytes [] = []
  slots_of [] (entry ∷ entries) = []
  slots_of (byte ∷ bytes) (entry ∷ entries) = slot_of byte entry ∷ slots_of bytes entries

  abbrev pub states_by : List ℕ → List (Option T) → List BucketState
  states_by bytes entries = bucket_states (slots_of bytes entries)

  -- The control byte at a position. First come the bytes of all buckets. If there are fewer than 16 buckets, empty
  -- bytes follow up to position 16. At the end, the bytes of the first buckets are repeated.
  abbrev pub byte_at : List (Slot T) → ℕ → ℕ
  byte_at slots position =
      if nat_lt position (length slots) then byte_of (bucket_at slots position)
      else if nat_lt position 16 then empty_byte
      else byte_of (bucket_at slots (position - max 16 (length slots)))

  -- The byte of a place with an entry is a tag. The byte of a place without an entry is `empty_byte` or `deleted_byte`.
  abbrev pub Agrees : ℕ → Option T → Type 0
  Agrees byte (Some entry) = IsTag byte
  Agrees byte None = (byte ≡ deleted_byte) ⊎ (byte ≡ empty_byte)

  -- the control bytes after `byte` was written as the byte of bucket b, and as its repetition
  abbrev pub written : List ℕ → List (Option T) → ℕ → ℕ → List ℕ
  written control entries b byte = slice_set (slice_set control b byte) (b + max 16 (length entries)) byte

  pub record IsLaidOut (control : List ℕ) (entries : List (Option T)) : Type 0 where
    pub counts : ((length entries ≡ 0) × (length control ≡ 0))
        ⊎ (IsPowerFromFour (length entries) × (length control ≡ length entries + 16))
    pub fits : length control < 2 ^ 63
    pub agrees : (b : ℕ) → b < length entries → Agrees (slice_index control b) (slice_index_or entries b None)
    pub bytes : (p : ℕ) → p < length control → slice_index control p ≡ byte_at (slots_of control entries) p

  pub record IsValid (control : List ℕ) (entries : List (Option T)) (growth_left : ℕ) : Type 0 where
    pub laid_out : IsLaidOut control entries
    pub room_left : count_by is_used (slots_of control entries) + growth_left ≡ full_capacity (length entries)
    pub none_deleted : length entries ≤ 16
        → (b : ℕ) → bucket_at (slots_of control entries) b ≡ deleted → length entries ≡ 0
