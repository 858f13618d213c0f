-- The insertion of a new pair into the table: whether growth is left, what the limiter permits, and how many entries
-- move.
use Rattle.std.specs.Prelude.{◌≡◌, ℕ, zero, suc, ◌+◌, ◌-◌, ◌/◌, ◌≤◌, ◌<◌, ◌⊎◌, Bool, true, false, List, [], ◌∷◌}
use Rattle.std.specs.Prelude.{length}
use Rattle.std.specs.Prelude.{Result, Ok, Err, slice_set}
use Rattle.group_table.specs.Sizes.{full_capacity}
use Rattle.group_table.specs.Bucket.{BucketState, empty, deleted, full, bucket_at, growth_left as growth_left_of}
use Rattle.group_table.specs.Probe.{IsFirstFree}
use Rattle.lru_limits.specs.Rules.{Rules}
use Rattle.lru_model.specs.Sizes.{target, Target, no_table, new_table}
use Rattle.lru_model.specs.State.{State, TableState, buckets, growth_left, FirstFreeIs, count_insert, contents, Leaves, pop}

-- `placed`: the pair is stored. `refused`: the table cannot grow, and there is no pair to evict. `no_memory`: the map
-- runs out of memory.
pub data Outcome : Type 0 where
  placed refused no_memory : Outcome

abbrev pub outcome_of : {E : Type 0} → Result Bool E → Outcome
outcome_of (Ok true) = placed
outcome_of (Ok false) = refused
outcome_of (Err e) = no_memory

-- The new pair becomes the newest. It fills the first free bucket in a search for the hash. No other bucket changes. If
-- the bucket was empty, `growth_left` falls by one. If the bucket was deleted, `growth_left` stays, and the table has
-- more than 16 buckets.
pub record FillsBucket (hash : ℕ) (old new : TableState) : Type 0 where
  pub bucket : ℕ
  pub first : IsFirstFree old.states hash bucket
  pub states : new.states ≡ slice_set old.states bucket (full tt)
  pub places : new.places ≡ bucket ∷ old.places
  pub spends : ((bucket_at old.states bucket ≡ empty) × (growth_left_of new.states + 1 ≡ growth_left_of old.states))
      ⊎ ((bucket_at old.states bucket ≡ deleted) × (16 < length old.states) × (growth_left_of new.states ≡ growth_left_of old.states))

-- In a table of n pairs, no bucket takes a pair with this hash. No growth is left, and the first free bucket in a
-- search for the hash is empty, not deleted. If n is 0, the table is not searched.
pub record NoBucketTakes (hash n : ℕ) (states : List BucketState) : Type 0 where
  pub no_growth_left : growth_left_of states ≡ 0
  pub first_empty : 0 < n → FirstFreeIs empty hash states

-- No bucket takes a pair with this hash. A rehash is not enough: with one pair more, the table would be more than half
-- full. The table has no buckets, or it contains pairs.
pub record IsTooSmallFor (hash n : ℕ) (states : List BucketState) : Type 0 where
  pub no_bucket : NoBucketTakes hash n states
  pub above_half : full_capacity (length states) / 2 < n + 1
  pub begun : (length states ≡ 0) ⊎ (0 < n)

module _ {K V S H : Type 0} where
  -- The new pair is stored as the newest. The table now has `count` buckets. The insert moved `moves` entries.
  pub record IsPlaced (pair : K × V) (count moves : ℕ) (old new : State K V S H) : Type 0 where
    pub table : buckets new ≡ count
    pub state : new ≡ record old {
      pairs = pair ∷ old.pairs;
      table = new.table;
      counts = count_insert moves old.counts;
    }

  -- the pair was stored in a table of the same size, and no entry moved
  abbrev pub IsPlacedInTable : K × V → State K V S H → State K V S H → Type 0
  IsPlacedInTable pair old new = IsPlaced pair (buckets old) 0 old new

  abbrev pub HasNoBucket : ℕ → State K V S H → Type 0
  HasNoBucket hash st = NoBucketTakes hash (length st.pairs) st.table.states

  abbrev pub IsOutgrown : ℕ → State K V S H → Type 0
  IsOutgrown hash st = IsTooSmallFor hash (length st.pairs) st.table.states

  -- the table into which the map grows for n more pairs
  abbrev pub table_for : ℕ → State K V S H → Target
  table_for n st = target st.max st.entry_bytes (buckets st) (length st.pairs + n)

  abbrev pub HasPairsButNoGrowth : State K V S H → Type 0
  HasPairsButNoGrowth st = (0 < length st.pairs) × (growth_left st ≡ 0)

module _ {K V S H : Type 0} (rules : Rules K V S) where
  -- the map after its limiter was queried for a table of `bytes` bytes (`on_grow`)
  abbrev pub asked : ℕ → State K V S H → State K V S H
  asked bytes st = record st { limiter = (rules.on_grow st.limiter bytes).limiter }

  abbrev pub Grants : ℕ → State K V S H → Type 0
  Grants bytes st = (rules.on_grow st.limiter bytes).allowed ≡ true

  abbrev pub Denies : ℕ → State K V S H → Type 0
  Denies bytes st = (rules.on_grow st.limiter bytes).allowed ≡ false

  -- the map after its limiter was notified of a pair that was not stored
  abbrev pub unstored : K × V → State K V S H → State K V S H
  unstored pair st = record st { limiter = (rules.on_removed st.limiter pair.0 pair.1).limiter }

  -- The n oldest pairs were evicted, one after another. Before each eviction, no bucket could take a pair with this
  -- hash.
  abbrev pub OldestEvicted : ℕ → ℕ → State K V S H → State K V S H → Type 0
  OldestEvicted hash zero old new = new ≡ old
  OldestEvicted hash (suc n) old new = (before : State K V S H) × OldestEvicted hash n old before
      × HasNoBucket hash before × Leaves before (pop rules (contents before)) new

  -- Either the pair is stored (`IsPlaced`) and `growth_left` is `spare`, or the map ran out of memory and the limiter was
  -- notified that the pair is not stored.
  abbrev pub IsPlacedIfMemory : K × V → ℕ → ℕ → ℕ → State K V S H → Outcome → State K V S H → Type 0
  IsPlacedIfMemory pair count spare moves old placed new =
      IsPlaced pair count moves old new × (growth_left new ≡ spare)
  IsPlacedIfMemory pair count spare moves old no_memory new = new ≡ unstored pair old
  IsPlacedIfMemory pair count spare moves old refused new = ⊥

  -- Either a table of `count` buckets now contains all entries and the new pair, or the map ran out of memory.
  abbrev pub IsPlacedByMove : K × V → ℕ → State K V S H → Outcome → State K V S H → Type 0
  IsPlacedByMove pair count old =
      IsPlacedIfMemory pair count (full_capacity count - length old.pairs - 1) (length old.pairs) old

  -- Why a table cannot grow: there is no larger table, or the limiter refuses the larger table. `mid` is the map after
  -- the limiter was queried, or `old` if it was not.
  pub data CannotGrow (old mid : State K V S H) : Type 0 where
    no_target : table_for 1 old ≡ no_table → mid ≡ old → CannotGrow old mid
    denied : (count bytes : ℕ) → table_for 1 old ≡ new_table count bytes → Denies bytes old →
        mid ≡ asked bytes old → CannotGrow old mid

  -- The oldest pairs of `mid` are evicted until a bucket takes the new pair. If the pairs fill less than half of the
  -- capacity, the evictions stop: the table is rehashed, or the map runs out of memory. If there is no pair to evict,
  -- the new pair is not stored. `old` and `mid` are the maps of `CannotGrow`.
  pub data Evicts (hash : ℕ) (pair : K × V) (old mid : State K V S H) (outcome : Outcome)
      (new : State K V S H) : Type 0 where
    nothing_to_evict : old.pairs ≡ [] →
        outcome ≡ refused → new ≡ unstored pair mid →
        Evicts hash pair old mid outcome new
    finds_bucket : (n : ℕ) → 0 < n → (buckets old ≤ 16 → n ≡ 1) →
        full_capacity (buckets old) / 2 + n ≤ length old.pairs →
        (left : State K V S H) → OldestEvicted hash n mid left → FillsBucket hash left.table new.table →
        outcome ≡ placed → IsPlaced pair (buckets old) 0 left new →
        Evicts hash pair old mid outcome new
    rehashes : 0 < length old.pairs → (n : ℕ) → 0 < n → (buckets old ≤ 16 → n ≡ 1) →
        length old.pairs + 1 ≡ full_capacity (buckets old) / 2 + n →
        (left : State K V S H) → OldestEvicted hash n mid left →
        IsPlacedIfMemory pair (buckets old) (full_capacity (buckets old) / 2) (length left.pairs) left outcome new →
        Evicts hash pair old mid outcome new

module _ {K V S H : Type 0} (rules : Rules K V S) (hash_of : H → K → ℕ) where
  -- how the insertion of the pair into the table may end
  pub data Place (pair : K × V) (old : State K V S H) (outcome : Outcome) (new : State K V S H) : Type 0 where
    -- A free bucket takes the pair. The limiter is not queried, and the map needs no memory.
    in_bucket : length old.pairs < full_capacity (buckets old) → (0 < growth_left old) ⊎ (0 < length old.pairs) →
        FillsBucket (hash_of old.hasher pair.0) old.table new.table →
        outcome ≡ placed → IsPlacedInTable pair old new →
        Place pair old outcome new
    -- No bucket takes the pair, and the table would be at most half full with the pair. The table is rehashed, or the
    -- map runs out of memory. If the map has no pairs, the rehash needs no memory.
    rehashed : HasNoBucket (hash_of old.hasher pair.0) old → length old.pairs + 1 ≤ full_capacity (buckets old) / 2 →
        (outcome ≡ no_memory → 0 < length old.pairs) →
        IsPlacedByMove rules pair (buckets old) old outcome new →
        Place pair old outcome new
    -- The table is too small, there is a larger table, and the limiter permits the larger table. The table grows, or
    -- the map runs out of memory.
    grown : IsOutgrown (hash_of old.hasher pair.0) old →
        (count bytes : ℕ) → table_for 1 old ≡ new_table count bytes → Grants rules bytes old →
        IsPlacedByMove rules pair count (asked rules bytes old) outcome new →
        Place pair old outcome new
    -- The table is too small and cannot grow. If the map has pairs, one or more of the oldest pairs are evicted. If the
    -- map has no pairs, the new pair is not stored.
    not_grown : IsOutgrown (hash_of old.hasher pair.0) old →
        (mid : State K V S H) → CannotGrow rules old mid →
        Evicts rules (hash_of old.hasher pair.0) pair old mid outcome new →
        Place pair old outcome new
