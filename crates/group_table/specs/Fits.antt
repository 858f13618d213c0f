-- Which hashes the entries of a table may have. A table stores no hashes, so its contracts are about all hashes that
-- fit the table (`Fits`).
use Rattle.std.specs.Prelude.{◌≡◌, ℕ, List, nat_eq, if◌then◌else◌}
use Rattle.group_table.specs.Bucket.{Slot, Tagged, full, bucket_at, IsFull, bucket_states}
use Rattle.group_table.specs.Probe.{hash_tag, Reaches}

-- `hash_of b` is the hash of the entry in bucket b. The hashes fit if each entry's tag is the tag of the entry's hash,
-- and a search for this hash reaches the entry's bucket.
pub record Fits {T : Type 0} (slots : List (Slot T)) (hash_of : ℕ → ℕ) : Type 0 where
  pub tags : (b : ℕ) (held : Tagged T) → bucket_at slots b ≡ full held → held.tag ≡ hash_tag (hash_of b)
  pub reached : (b : ℕ) → IsFull slots b → Reaches (bucket_states slots) (hash_of b) b

-- the function `hash_of`, changed to return `hash` for bucket b
abbrev pub with_hash : (ℕ → ℕ) → ℕ → ℕ → ℕ → ℕ
with_hash hash_of b hash other = if nat_eq other b then hash else hash_of other
