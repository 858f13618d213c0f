-- Entries move one by one into a fresh table. No public contract uses this module.
use Rattle.std.specs.Prelude.{◌≡◌, ℕ, ◌<◌, List, length, slice_set, slice_index_or, Option, None}
use Rattle.group_table.specs.Bucket.{Slot, empty, bucket_at, bucket_states}
use Rattle.group_table.specs.Probe.{filled, Reaches}

module _ {T : Type 0} where
  abbrev pub place_at : List (Option T) → ℕ → Option T
  place_at places b = slice_index_or places b None

  -- the entry filled bucket b, which was empty; a search for the hash of the entry reaches b
  pub record Joins (old new : List (Slot T)) (hash : ℕ) (entry : T) (b : ℕ) : Type 0 where
    pub reached : Reaches (bucket_states old) hash b
    pub within : b < length old
    pub was_empty : bucket_at old b ≡ empty
    pub slots : new ≡ slice_set old b (filled hash entry)
