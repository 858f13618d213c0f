-- How the entries of a table move to new buckets.
use Rattle.std.specs.Prelude.{◌≡◌, ℕ, ◌⊎◌, List, [], length, slice_index_or, Option, Some, None}
use Rattle.std.specs.Borrow.{Bor}
use Rattle.std.specs.Fn.{Shared, FnReturnsAt}
use Rattle.group_table.specs.Bucket.{Slot, entry_at, entry_count, IsFull}
use Rattle.group_table.specs.Fits.{Fits}

module _ {N : Type 0} (number : N → ℕ) (none : N) where
  -- the new bucket of the entry that was in the old bucket b
  abbrev pub moved_to : List N → ℕ → ℕ
  moved_to links b = number (slice_index_or links b none)

-- Below, `old b` is the entry that was in the old bucket b, or `None` if there was no entry.
module _ {T N : Type 0} (number : N → ℕ) (none : N) (old : ℕ → Option T) (new : List (Slot T)) (links : List N) where
  -- the entry of each old bucket b is now in the new bucket `moved_to b`; no other new bucket is full
  pub record Moves : Type 0 where
    pub moved : (b : ℕ) (entry : T) → old b ≡ Some entry → entry_at new (moved_to number none links b) ≡ Some entry
    pub others : (b : ℕ) → old b ≡ None → slice_index_or links b none ≡ none
    pub apart : (b c : ℕ) (x y : T) → old b ≡ Some x → old c ≡ Some y
        → moved_to number none links b ≡ moved_to number none links c → b ≡ c
    pub onto : (c : ℕ) → IsFull new c
        → (b : ℕ) × (entry : T) × (old b ≡ Some entry) × (moved_to number none links b ≡ c)

  -- if each entry keeps its hash, the hashes fit the new table (`Fits`)
  abbrev pub KeepsHashes : (ℕ → ℕ) → Type 0
  KeepsHashes hash_of = (moved_hash_of : ℕ → ℕ)
      → ((b : ℕ) (entry : T) → old b ≡ Some entry → moved_hash_of (moved_to number none links b) ≡ hash_of b)
      → Fits new moved_hash_of

module _ {T N : Type 0} (number : N → ℕ) (none : N) where
  -- for each old bucket, `links` contains the link to the new bucket of its entry, or `none` if the old bucket was free
  pub record IsRenumbering (old new : List (Slot T)) (links : List N) : Type 0 where
    pub one_each : length links ≡ length old
    pub moves : Moves number none (entry_at old) new links

  -- `links` is a renumbering of the old buckets, or empty if the table has no entries
  abbrev pub Renumbers : List (Slot T) → List (Slot T) → List N → Type 0
  Renumbers old new links = ((entry_count old ≡ 0) × (links ≡ [])) ⊎ IsRenumbering old new links

module _ {T H : Type 0} (closure : Shared H (Bor T × Unit {0}) ℕ) (f : H) where
  -- if the closure f returns a hash for the entry of the old bucket b, this hash is `hash_of b`
  abbrev pub GivesHashes : (ℕ → Option T) → (ℕ → ℕ) → Type 0
  GivesHashes old hash_of = (b hash : ℕ) (entry : T)
      → old b ≡ Some entry → FnReturnsAt closure f entry hash → hash ≡ hash_of b
