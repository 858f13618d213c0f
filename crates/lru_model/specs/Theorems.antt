-- Definitions for the laws in `src/laws`.
use Rattle.std.specs.Prelude.{◌≡◌, ℕ, ◌+◌, ◌-◌, ◌*◌, ◌/◌, ◌^◌, ◌≤◌, ◌<◌, Bool, true, false, List, ◌∷◌, length}
use Rattle.std.specs.Prelude.{sum_by, not}
use Rattle.std.specs.List.{filter}
use Rattle.std.specs.Prelude.{Some, None, IfSome, Result, Ok, OnErr}
use Rattle.std.specs.declared.alloc.AllocError.{AllocError}
use Rattle.group_table.specs.Sizes.{full_capacity}
use Rattle.lru_limits.specs.Bytes.{Bytes}
use Rattle.lru_limits.specs.Rules.{Rules, Offers}
use Rattle.lru_model.specs.Sizes.{usage}
use Rattle.lru_model.specs.Lists.{first, IsFront, lookup_entry, without}
use Rattle.lru_model.specs.State.{State, Counts, buckets, contents, potential}
use Rattle.lru_model.specs.Place.{HasPairsButNoGrowth, CannotGrow}
use Rattle.lru_model.specs.Inserts.{replacement, with_new_value, MayGive, IsOutOfMemory}

-- The count `insertions` rises by as much as the counts `moved` and `placed` together, until a count stops at its
-- maximum.
abbrev pub CountsInsertions : Counts → Counts → Type 0
CountsInsertions old new = new.insertions < 2 ^ 64 - 1 → new.moved < 2 ^ 64 - 1 → new.placed < 2 ^ 64 - 1 →
    new.insertions + old.moved + old.placed ≡ old.insertions + new.moved + new.placed

module _ {K V S H : Type 0} where
  -- The count `moved`, plus the `potential`, rises by at most 2 for each stored entry. This bound holds until the count
  -- `placed` stops at its maximum. The count `shrunk` does not change.
  pub record PaysByStoring (old new : State K V S H) : Type 0 where
    pub placed : old.counts.placed ≤ new.counts.placed
    pub shrunk : new.counts.shrunk ≡ old.counts.shrunk
    pub moved : new.counts.placed < 2 ^ 64 - 1 →
        new.counts.moved + potential new + 2 * old.counts.placed
        ≤ old.counts.moved + potential old + 2 * new.counts.placed

  -- The number that `count` reads, plus the `potential`, rises by at most m for each stored entry, plus n for each
  -- entry that a shrink rehashed. This bound holds until the count `placed` or `shrunk` stops at its maximum.
  pub record PaysFor (count : Counts → ℕ) (m n : ℕ) (old new : State K V S H) : Type 0 where
    pub placed : old.counts.placed ≤ new.counts.placed
    pub shrunk : old.counts.shrunk ≤ new.counts.shrunk
    pub rise : new.counts.placed < 2 ^ 64 - 1 → new.counts.shrunk < 2 ^ 64 - 1 →
        count new.counts + potential new + m * old.counts.placed + n * old.counts.shrunk
        ≤ count old.counts + potential old + m * new.counts.placed + n * new.counts.shrunk

  -- the bound for moves of entries
  abbrev pub PaysForMoves : State K V S H → State K V S H → Type 0
  PaysForMoves = PaysFor (λ counts. counts.moved) 2 1

  -- the bound for insertions into the table, if calls reserve growth only when no growth is left
  abbrev pub PaysForInsertions : State K V S H → State K V S H → Type 0
  PaysForInsertions = PaysFor (λ counts. counts.insertions) 3 2

  abbrev pub UsesAtMost : ℕ → State K V S H → Type 0
  UsesAtMost most st = (bytes : ℕ) × (usage st.entry_bytes (buckets st) ≡ Some bytes) × (bytes ≤ most)

  -- the running total of the limiter is the sum of the costs of the pairs
  abbrev pub IsSummed : (K → V → ℕ) → (S → ℕ) → State K V S H → Type 0
  IsSummed cost account st = account st.limiter ≡ sum_by (λ p. cost p.0 p.1) st.pairs

abbrev pub others : {K V : Type 0} → (K → Bool) → List (K × V) → List (K × V)
others test pairs = filter (λ pair. not (test pair.0)) pairs

-- the list has a newest pair, and the key of this pair passes the test
pub record IsNewest {K V : Type 0} (names : K → Bool) (pairs : List (K × V)) : Type 0 where
  pub pair : K × V
  pub rest : List (K × V)
  pub first : pairs ≡ pair ∷ rest
  pub named : names pair.0 ≡ true

-- What an insert or an update evicts or removes. `names` tests whether a key is the given key. `refuses pair` means that
-- the limiter rejects the new value for this pair. `storing pair` is the list after `pair` was stored.
pub data EvictsOldest {K V : Type 0} (names : K → Bool) (refuses : K × V → Type 0) (storing : K × V → List (K × V))
    (old new : List (K × V)) : Type 0 where
  -- A pair of the given key was stored. Then some or all pairs may have been evicted, oldest first.
  with_pair : (pair : K × V) → names pair.0 ≡ true → IsFront new (storing pair) →
      EvictsOldest names refuses storing old new
  -- The given key was new, and no pair was stored. The oldest pairs may have been evicted.
  with_none : lookup_entry names old ≡ None → IsFront new old → EvictsOldest names refuses storing old new
  -- Only the pair of the given key was removed, because the limiter rejects the new value.
  without_one : (pair : K × V) → lookup_entry names old ≡ Some pair → refuses pair → new ≡ without names old →
      EvictsOldest names refuses storing old new

module _ {K V S H : Type 0} (rules : Rules K V S) where
  -- The table has pairs but no growth left, would be more than half full with one pair more, and cannot grow.
  pub record IsRefusedGrowth (st : State K V S H) : Type 0 where
    pub is_full : HasPairsButNoGrowth st
    pub above_half : full_capacity (buckets st) / 2 < length st.pairs + 1
    -- the map after its limiter was queried, or `st` if there was no query
    pub mid : State K V S H
    pub refused : CannotGrow rules st mid

  -- If the result is true, the pair of the key is the newest, and the limiter is not over its limit. If the result is
  -- false or an error, the map does not contain the key.
  abbrev pub SaysWhether : (K → Bool) → Result Bool AllocError → State K V S H → Type 0
  SaysWhether names (Ok true) new =
      IsNewest names new.pairs × (rules.is_over_the_limit new.limiter (length new.pairs) ≡ false)
  SaysWhether names result new = lookup_entry names new.pairs ≡ None

module _ {K V S H I : Type 0} (rules : Rules K V S) (offers : Offers K V S I) (names : I → K → Bool) where
  -- The pair that an insert stores. If the map contained the key, this is the stored key with the new value, as
  -- `on_replace` leaves them. If the key is new, it is the pair that the limiter returned.
  pub data Stores (i : I) (v : V) (old : State K V S H) (pair : K × V) : Type 0 where
    left : (was : K × V) → lookup_entry (names i) old.pairs ≡ Some was
        → (replacement rules offers names was i v (contents old)).taken ≡ true →
        pair ≡ with_new_value rules offers names was i v (contents old) →
        Stores i v old pair
    given : lookup_entry (names i) old.pairs ≡ None →
        (s : S) → MayGive rules offers names i v (contents old) s (Some pair) →
        Stores i v old pair

  -- The result says whether the key is in the map (`says`). If the result is true, the newest pair is the pair that the
  -- insert stored (`stores`). If memory runs out, the key is new (`out_of_memory`), and only the oldest pairs may have
  -- been evicted (`keeps`).
  pub record InsertEnds (hash_of : H → K → ℕ) (i : I) (v : V) (old : State K V S H) (result : Result Bool AllocError)
      (new : State K V S H) : Type 0 where
    pub says : SaysWhether rules (names i) result new
    pub stores : result ≡ Ok true → IfSome (first new.pairs) (Stores i v old)
    pub out_of_memory : OnErr result (IsOutOfMemory rules offers names hash_of i v old new)
    pub keeps : OnErr result (IsFront new.pairs old.pairs)
    pub hasher : new.hasher ≡ old.hasher

-- the limiter changes no offered value
pub record KeepsValues {K V S I : Type 0} (offers : Offers K V S I) : Type 0 where
  pub given : (s : S) (n : ℕ) (i : I) (v : V) (t : S) (k : K) (w : V) → offers.on_insert s n i v t (Some (k, w)) → w ≡ v
  pub replaced : (s : S) (n : ℕ) (k : K) (i : I) (v w : V) → (offers.on_replace s n k i v w).new_value ≡ w

-- `bytes_of k v`: the number of bytes that the pair of k and v owns
module _ {K V S H : Type 0} (bytes_of : K → V → ℕ) where
  -- the bytes of the table plus the bytes that the pairs own are at most n
  abbrev pub TakesAtMost : ℕ → State K V S H → Type 0
  TakesAtMost n st = (table : ℕ) × (usage st.entry_bytes (buckets st) ≡ Some table)
      × (table + sum_by (λ pair. bytes_of pair.0 pair.1) st.pairs ≤ n)

module _ {K V H : Type 0} (bytes_of : K → V → ℕ) where
  -- The limiter counts exactly the bytes that the pairs own, and at least the bytes that the table uses.
  pub record CountsBytes (st : State K V Bytes H) : Type 0 where
    pub table : UsesAtMost st.limiter.table st
    pub owned : IsSummed bytes_of (λ b. b.owned) st

  -- the limiter counts the bytes of the map, and the sum of its two counts is at most the limit
  pub record KeepsBytes (st : State K V Bytes H) : Type 0 where
    pub counts : CountsBytes st
    pub within : st.limiter.owned + st.limiter.table ≤ st.limiter.limit
