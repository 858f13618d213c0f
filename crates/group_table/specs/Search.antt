-- Which entries a search passes to its closure, and what the closure returns.
use Rattle.std.specs.Prelude.{◌≡◌, ◌≢◌, ℕ, ◌/◌, ◌<◌, ◌≤◌, Bool, true, false, List, [], ◌∷◌, ◌++◌, length, map, filter}
use Rattle.std.specs.Prelude.{Some, Contains, AllPairs, IsTrue}
use Rattle.std.specs.List.{range_with_len, FoldsTo}
use Rattle.std.specs.Borrow.{Bor}
use Rattle.std.specs.Fn.{Mut, CalledAt}
use Rattle.group_table.specs.Bucket.{Slot, empty, bucket_at, entry_at, has_tag, IsFull, bucket_states}
use Rattle.group_table.specs.Probe.{hash_tag, probed, state_probed, Reaches}
use Rattle.group_table.specs.Fits.{Fits}

-- the buckets that have the tag, among the first `steps` buckets of the given order
abbrev pub tagged : {T : Type 0} → List (Slot T) → ℕ → (ℕ → ℕ) → ℕ → List ℕ
tagged slots tag order steps = filter (λ b. has_tag tag (bucket_at slots b)) (map order (range_with_len 0 steps))

module _ {T : Type 0} (slots : List (Slot T)) (hash : ℕ) where
  -- the buckets that have the tag of the hash, among the first `steps` buckets of a search
  abbrev pub candidates : ℕ → List ℕ
  candidates steps = tagged slots (hash_tag hash) (probed (length slots) hash) steps

  -- `asked` lists the candidates of the first `steps` steps of a search, and lists no bucket twice. The search makes
  -- all these steps: no empty bucket ends the search earlier.
  pub record IsSearch (asked : List ℕ) : Type 0 where
    pub steps : ℕ
    pub within : steps ≤ length slots
    pub reached : (step before : ℕ) → step < steps → before / 16 < step / 16
        → state_probed (bucket_states slots) hash before ≢ empty
    pub in_order : asked ≡ candidates steps
    pub distinct : AllPairs ◌≢◌ asked

module _ {T F : Type 0} (closure : Mut F (Bor T × Unit {0}) Bool) (slots : List (Slot T)) where
  -- a call of f with the entry in bucket b may return `answer` and change f into g
  pub record Answers (f : F) (b : ℕ) (answer : Bool) (g : F) : Type 0 where
    pub entry : T
    pub there : entry_at slots b ≡ Some entry
    pub called : CalledAt closure f entry answer g

  -- f was called with the entries in the buckets `asked`, in this order, and rejected each entry; these calls change f
  -- into g
  abbrev pub RejectsEach : F → List ℕ → F → Type 0
  RejectsEach f asked g = FoldsTo (λ p b q. Answers p b false q) f asked g

  -- In a search for the hash, f rejected the entries in the buckets `asked`, one after another, and then accepted the
  -- entry in bucket b.
  pub record Finds (hash : ℕ) (f : F) (b : ℕ) : Type 0 where
    pub asked : List ℕ
    pub search : IsSearch slots hash (asked ++ b ∷ [])
    pub between : F
    pub refused : RejectsEach f asked between
    pub last : F
    pub accepted : Answers between b true last

  -- In a search for the hash, f rejected the entries in the buckets `asked`. These are all buckets that have the tag of
  -- the hash and that the search reaches. If the hashes `hash_of` fit the table, `asked` contains each full bucket b
  -- for which `hash_of b` is the searched hash.
  pub record FindsNone (hash : ℕ) (f : F) : Type 0 where
    pub asked : List ℕ
    pub search : IsSearch slots hash asked
    pub last : F
    pub refused : RejectsEach f asked last
    pub all_reached : (b : ℕ) → IsTrue (has_tag (hash_tag hash) (bucket_at slots b))
        → Reaches (bucket_states slots) hash b → Contains asked b
    pub complete : (hash_of : ℕ → ℕ) → Fits slots hash_of
        → (b : ℕ) → IsFull slots b → hash_of b ≡ hash → Contains asked b
