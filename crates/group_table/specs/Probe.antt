-- What the hash of an entry determines: the tag in the entry's bucket, and the order in which a search visits buckets.
use Rattle.std.specs.Prelude.{◌≡◌, ◌≢◌, ℕ, ◌+◌, ◌*◌, ◌/◌, ◌%◌, ◌^◌, ◌<◌, Bool, false, List, length, IsTrue}
use Rattle.group_table.specs.Bucket.{Slot, BucketState, empty, full, bucket_at, is_full}

-- the top 7 bits of a hash
abbrev pub hash_tag : ℕ → ℕ
hash_tag hash = hash / 2 ^ 57

-- a full bucket with this entry and the tag of this hash
abbrev pub filled : {T : Type 0} → ℕ → T → Slot T
filled hash entry = full (record { tag = hash_tag hash; entry = entry })

-- The bucket that a search visits at a step. A search visits groups of 16 buckets. The first group begins at the bucket
-- `hash % buckets`, the second group 16 buckets later, the third group another 32 buckets later, and so on.
abbrev pub probed : ℕ → ℕ → ℕ → ℕ
probed buckets hash step = (hash + 8 * (step / 16) * (step / 16 + 1) + step % 16) % buckets

-- in the given order of the buckets, b is the first bucket that is not full
pub record IsFirst (full_at : ℕ → Bool) (order : ℕ → ℕ) (b : ℕ) : Type 0 where
  pub step : ℕ
  pub there : order step ≡ b
  pub free_there : full_at b ≡ false
  pub full_before : (before : ℕ) → before < step → IsTrue (full_at (order before))

module _ (states : List BucketState) (hash : ℕ) where
  -- the state of the bucket that a search visits at a step
  abbrev pub state_probed : ℕ → BucketState
  state_probed step = bucket_at states (probed (length states) hash step)

  -- A search for the hash reaches bucket b. No group that the search visits before the group of b has an empty bucket,
  -- which would end the search.
  pub record Reaches (b : ℕ) : Type 0 where
    pub step : ℕ
    pub there : probed (length states) hash step ≡ b
    pub goes_on : (before : ℕ) → before / 16 < step / 16 → state_probed before ≢ empty

  -- a search for the hash visits b before every other bucket that is not full
  abbrev pub IsFirstFree : ℕ → Type 0
  IsFirstFree = IsFirst (λ b. is_full (bucket_at states b)) (probed (length states) hash)
