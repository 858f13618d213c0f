-- What a search reads in a group of 16 neighbouring buckets. A lane is a position in a group. No public contract uses
-- this module.
use Rattle.std.specs.Prelude.{◌≡◌, ◌≢◌, ℕ, ◌+◌, ◌-◌, ◌%◌, ◌<◌, ◌≤◌, min, Bool, true, List, [], ◌∷◌, ◌++◌, length}
use Rattle.std.specs.Prelude.{nat_lt, slice_index}
use Rattle.std.specs.Borrow.{Bor}
use Rattle.std.specs.Fn.{Mut}
use Rattle.group_table.specs.Bucket.{Slot, empty, bucket_at, bucket_states}
use Rattle.group_table.specs.Probe.{probed, IsFirst}
use Rattle.group_table.specs.Bytes.{empty_byte, deleted_byte}
use Rattle.group_table.specs.Search.{tagged, Answers, RejectsEach}
use Rattle.group_table.specs.declared.probe.Probe.{Probe}
use Rattle.group_table.specs.declared.probe.Searched.{Searched}
use Rattle.group_table.specs.declared.probe.Searched.TheVariants.{Accepted, Ended, GoesOn}

-- the number of buckets that the search visited before the current group
abbrev pub passed_by : Probe → ℕ
passed_by probe = probe.stride - 16

-- before the current group, a search for the hash visits `passed_by` buckets, a multiple of 16
pub record IsProbe (buckets hash : ℕ) (probe : Probe) : Type 0 where
  pub start : probe.start ≡ probed buckets hash (passed_by probe)
  pub whole : passed_by probe % 16 ≡ 0
  pub stride : 16 ≤ probe.stride

module _ {T : Type 0} (slots : List (Slot T)) where
  -- the number of different buckets in a group
  abbrev pub width : ℕ
  width = min 16 (length slots)

  -- the buckets that have the tag, among the first `lanes` buckets of a group
  abbrev pub tagged_lanes : ℕ → ℕ → ℕ → List ℕ
  tagged_lanes tag start lanes = tagged slots tag (λ lane. (start + lane) % length slots) lanes

  abbrev pub IsEmptyLane : ℕ → ℕ → Type 0
  IsEmptyLane start lane = bucket_at (bucket_states slots) ((start + lane) % length slots) ≡ empty

  abbrev pub HasEmptyLane : ℕ → ℕ → Type 0
  HasEmptyLane start lanes = (lane : ℕ) × (lane < lanes) × IsEmptyLane start lane

  abbrev pub HasNoEmptyLane : ℕ → ℕ → Type 0
  HasNoEmptyLane start lanes = (lane : ℕ) → lane < lanes
      → bucket_at (bucket_states slots) ((start + lane) % length slots) ≢ empty

module _ {T F : Type 0} (closure : Mut F (Bor T × Unit {0}) Bool) (slots : List (Slot T)) (tag start : ℕ) (f : F) where
  -- f was called with the entries that have the tag, in the order of the lanes. It accepted the entry in bucket b, and
  -- rejected each earlier entry.
  pub record AcceptsIn (b : ℕ) (g : F) : Type 0 where
    pub lanes : ℕ
    pub in_group : lanes ≤ width slots
    pub asked : List ℕ
    pub in_order : asked ++ b ∷ [] ≡ tagged_lanes slots tag start lanes
    pub between : F
    pub refused : RejectsEach closure slots f asked between
    pub accepted : Answers closure slots between b true g

  abbrev pub RejectsGroup : F → Type 0
  RejectsGroup g = RejectsEach closure slots f (tagged_lanes slots tag start (width slots)) g

  -- how the search of one group ends: f accepted an entry, the search ended at an empty bucket, or the search goes on
  abbrev pub SearchesGroup : Searched → F → Type 0
  SearchesGroup (Accepted b) g = AcceptsIn b g
  SearchesGroup Ended g = RejectsGroup g × HasEmptyLane slots start (width slots)
  SearchesGroup GoesOn g = RejectsGroup g × HasNoEmptyLane slots start (width slots)

-- whether the byte of bucket b is a tag
abbrev pub full_at : List ℕ → ℕ → Bool
full_at control b = nat_lt (slice_index control b) deleted_byte

abbrev pub IsEmptyAt : List ℕ → ℕ → Type 0
IsEmptyAt control b = slice_index control b ≡ empty_byte

-- b is the first empty or deleted bucket of the group that begins at `start`
pub record IsFreeLane (control : List ℕ) (buckets start b : ℕ) : Type 0 where
  pub first : IsFirst (full_at control) (λ lane. (start + lane) % buckets) b
  pub in_group : first.step < 16
