-- A table whose full buckets are in an order, newest first.
use Rattle.std.specs.Prelude.{◌≡◌, ◌≢◌, ℕ, ◌+◌, List, [], ◌∷◌, ◌++◌, length, filter, not, nat_eq, slice_set, option_map}
use Rattle.std.specs.Prelude.{Option, Some, None, if◌then◌else◌}
use Rattle.std.specs.Prelude.{option_to_list, unwrap_or, Contains, AllPairs}
use Rattle.lru_model.specs.Lists.{first}
use Rattle.group_table.specs.Bucket.{Slot, IsFull, entry_at, entry_count, bucket_at, refilled, bucket_states, growth_left}
use Rattle.group_table.specs.Bucket.{growth_left_at}
use Rattle.group_table.specs.Probe.{filled, IsFirstFree}
use Rattle.group_table.specs.Change.{MayFill, one_placed, Removes}
use Rattle.group_table.specs.Table.{Insertions, IsTable}
use Rattle.group_table.specs.Fits.{Fits}

pub record OrderedTable (K V : Type 0) : Type 0 where
  pub slots : List (Slot (K × V))
  -- the full buckets, newest first
  pub order : List ℕ
  pub insertions : Insertions

abbrev pub without_bucket : ℕ → List ℕ → List ℕ
without_bucket b order = filter (λ c. not (nat_eq c b)) order

abbrev pub in_front : Option ℕ → List ℕ → List ℕ
in_front None order = order
in_front (Some b) order = b ∷ without_bucket b order

abbrev pub bucket_after : ℕ → List ℕ → Option ℕ
bucket_after b [] = None
bucket_after b (c ∷ cs) = if nat_eq c b then first cs else bucket_after b cs

abbrev pub bucket_before : ℕ → List ℕ → Option ℕ
bucket_before b [] = None
bucket_before b (c ∷ []) = None
bucket_before b (c ∷ d ∷ ds) = if nat_eq d b then Some c else bucket_before b (d ∷ ds)

abbrev pub entries_in : {T : Type 0} → List (Slot T) → List ℕ → List T
entries_in slots [] = []
entries_in slots (b ∷ bs) = option_to_list (entry_at slots b) ++ entries_in slots bs

module _ {K V : Type 0} where
  -- the pairs, newest first
  abbrev pub pairs_of : OrderedTable K V → List (K × V)
  pairs_of t = entries_in t.slots t.order

  -- the table after the pair in a full bucket was replaced
  abbrev pub with_pair : OrderedTable K V → ℕ → K × V → OrderedTable K V
  with_pair t b pair = record t { slots = slice_set t.slots b (refilled (bucket_at t.slots b) pair) }

  -- the hash of the key in a bucket
  abbrev pub hash_in : (K → ℕ) → List (Slot (K × V)) → ℕ → ℕ
  hash_in hash_of slots b = unwrap_or (option_map (λ pair. hash_of pair.0) (entry_at slots b)) 0

  -- The hashes of the keys fit the table: each full bucket has the tag of its key's hash, and a search for this key
  -- reaches the bucket.
  abbrev pub KeysFit : (K → ℕ) → List (Slot (K × V)) → Type 0
  KeysFit hash_of slots = Fits slots (hash_in hash_of slots)

  -- The pair is now the newest. It fills bucket b, which was the first free bucket in a search for the hash.
  pub record Lands (old new : OrderedTable K V) (hash : ℕ) (pair : K × V) (b : ℕ) : Type 0 where
    pub first : IsFirstFree (bucket_states old.slots) hash b
    pub may : MayFill (bucket_states old.slots) b
    pub slots : new.slots ≡ slice_set old.slots b (filled hash pair)
    pub order : new.order ≡ b ∷ old.order
    pub insertions : new.insertions ≡ one_placed old.insertions
    pub growth_left : growth_left (bucket_states new.slots) + growth_left_at (bucket_states old.slots) b ≡ growth_left (bucket_states old.slots)

  -- the pair was taken out of bucket b, and the other pairs keep their order
  pub record Takes (old new : OrderedTable K V) (b : ℕ) (taken : K × V) : Type 0 where
    pub pair : entry_at old.slots b ≡ Some taken
    pub removed : Removes old.slots new.slots b
    pub order : new.order ≡ without_bucket b old.order
    pub insertions : new.insertions ≡ old.insertions
    pub growth_left : growth_left (bucket_states new.slots) ≡ growth_left (bucket_states old.slots) + growth_left_at (bucket_states new.slots) b

  -- what holds for every `OrderedTable`
  pub record IsLinked (t : OrderedTable K V) : Type 0 where
    pub table : IsTable (bucket_states t.slots)
    -- the order contains each full bucket once, and contains only full buckets
    pub distinct : AllPairs ◌≢◌ t.order
    pub all : (b : ℕ) → IsFull t.slots b → Contains t.order b
    pub only : (b : ℕ) → Contains t.order b → IsFull t.slots b
    pub count : entry_count t.slots ≡ length t.order
