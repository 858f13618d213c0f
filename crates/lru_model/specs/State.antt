-- What a contract says of a map: its entries as a list of pairs, its limiter, hasher, bucket states and counts.
use Rattle.std.specs.Prelude.{◌≡◌, ℕ, zero, suc, ◌+◌, ◌-◌, ◌*◌, ◌^◌, ◌≤◌, ◌<◌, ◌⊎◌, Bool, false, if◌then◌else◌, List}
use Rattle.std.specs.Prelude.{[], length, Option, Some, None, filter, not, nat_eq}
use Rattle.std.specs.List.{IsDistinct}
use Rattle.group_table.specs.Sizes.{full_capacity}
use Rattle.group_table.specs.Bucket.{BucketState, bucket_at, entry_count, growth_left as growth_left_of}
use Rattle.group_table.specs.Change.{count_up, Removes}
use Rattle.group_table.specs.Probe.{IsFirstFree}
use Rattle.group_table.specs.Table.{IsTable}
use Rattle.lru_limits.specs.Rules.{Rules}
use Rattle.lru_model.specs.Sizes.{usage}
use Rattle.lru_model.specs.Lists.{last, without_last, keys_of, place_of}

-- the contents of a map: its pairs, newest first, and the state of its limiter
pub record Contents (K V S : Type 0) : Type 0 where
  pub pairs : List (K × V)
  pub limiter : S

-- the bucket table, without the pairs
pub record TableState : Type 0 where
  pub states : List BucketState
  -- the bucket number of each pair, newest pair first
  pub places : List ℕ

abbrev pub empty_table : TableState
empty_table = record { states = []; places = [] }

pub record Counts : Type 0 where
  -- the number of insertions into the table, of both new and moved entries
  pub insertions : ℕ
  -- the number of entries that inserts moved, and the number of new entries that they stored
  pub moved : ℕ
  pub placed : ℕ
  -- the number of entries that shrinks rehashed
  pub shrunk : ℕ

pub record State (K V S H : Type 0) : Type 0 where
  -- the pairs, newest first
  pub pairs : List (K × V)
  pub limiter : S
  -- what builds the hashers of keys
  pub hasher : H
  pub table : TableState
  pub counts : Counts
  -- the bytes of an entry, which the constructor got or computed
  pub entry_bytes : ℕ
  -- the number of the link `MAX`; all bucket numbers are smaller
  pub max : ℕ

-- What holds for the bucket states and the counts of every map of n pairs. Such a table is called sound.
pub record IsSound (n entry_bytes max : ℕ) (states : List BucketState) (counts : Counts) : Type 0 where
  pub table : IsTable states
  pub taken : entry_count states ≡ n
  -- the links are wide enough for every bucket
  pub reachable : (length states ≡ 0) ⊎ (length states < max)
  -- the table takes at most 2 ^ 63 - 16 bytes
  pub usable : (bytes : ℕ) × (usage entry_bytes (length states) ≡ Some bytes)
  pub moved : counts.moved < 2 ^ 64
  pub placed : counts.placed < 2 ^ 64
  pub shrunk : counts.shrunk < 2 ^ 64

-- if the count `shrunk` is below its maximum, the bound of `IsPaid` permits n more moves
abbrev pub IsAhead : ℕ → Counts → Type 0
IsAhead n counts = counts.shrunk < 2 ^ 64 - 1 → counts.moved + n ≤ 2 * counts.placed + counts.shrunk

-- Inserts moved at most two entries for each entry that they stored, plus one for each entry that a shrink rehashed.
-- The bound permits `potential` more moves, until the count `shrunk` stops at its maximum.
pub record IsPaid (potential : ℕ) (counts : Counts) : Type 0 where
  pub moved : counts.moved ≤ 2 * counts.placed + counts.shrunk
  pub ahead : IsAhead potential counts

-- How the bucket states change when a map that had `was` pairs keeps n of them. For each removed pair, `growth_left`
-- rises by at most one, and in a table of up to 16 buckets by exactly one.
pub record GivesBack (was n : ℕ) (old new : List BucketState) : Type 0 where
  pub table : length new ≡ length old
  pub keeps : growth_left_of old ≤ growth_left_of new
  pub at_most : n + growth_left_of new ≤ was + growth_left_of old
  pub exact : length old ≤ 16 → n + growth_left_of new ≡ was + growth_left_of old
  pub untouched : n ≡ was → new ≡ old

-- the first free bucket (empty or deleted) in a search for the hash has this state
abbrev pub FirstFreeIs : BucketState → ℕ → List BucketState → Type 0
FirstFreeIs state hash states = (b : ℕ) × IsFirstFree states hash b × (bucket_at states b ≡ state)

-- The pair at `place` was removed. If its bucket is in a run of 16 neighbouring buckets of which none is empty, the
-- bucket is now deleted. Otherwise, it is now empty. The other buckets keep their states.
pub record Frees (place : Option ℕ) (old new : TableState) : Type 0 where
  pub bucket : ℕ
  pub there : place ≡ Some bucket
  pub freed : Removes old.states new.states bucket
  pub others : new.places ≡ filter (λ b. not (nat_eq b bucket)) old.places

abbrev pub no_counts : Counts
no_counts = record { insertions = 0; moved = 0; placed = 0; shrunk = 0 }

-- the counts after an insert that stored an entry, and moved `moves` other entries
abbrev pub count_insert : ℕ → Counts → Counts
count_insert moves c = record c {
  insertions = count_up c.insertions (moves + 1);
  moved = count_up c.moved moves;
  placed = count_up c.placed 1;
}

module _ {K V S H : Type 0} where
  abbrev pub empty_map : S → H → ℕ → ℕ → State K V S H
  empty_map limiter hasher entry_bytes max = record {
    pairs = [];
    limiter = limiter;
    hasher = hasher;
    table = empty_table;
    counts = no_counts;
    entry_bytes = entry_bytes;
    max = max;
  }

  abbrev pub contents : State K V S H → Contents K V S
  contents st = record { pairs = st.pairs; limiter = st.limiter }

  abbrev pub buckets : State K V S H → ℕ
  buckets st = length st.table.states

  -- how many empty buckets may still be filled
  abbrev pub growth_left : State K V S H → ℕ
  growth_left st = growth_left_of st.table.states

  abbrev pub place_in : (K → Bool) → State K V S H → Option ℕ
  place_in names st = place_of names st.pairs st.table.places

  -- the table is sound, whatever the keys are
  abbrev pub IsSized : State K V S H → Type 0
  IsSized st = IsSound (length st.pairs) st.entry_bytes st.max st.table.states st.counts

  -- twice the number of full and deleted buckets, minus the number of entries that the table may hold, or 0 if this
  -- difference is negative
  abbrev pub potential : State K V S H → ℕ
  potential st = full_capacity (buckets st) - 2 * growth_left st

  -- what holds for every map
  pub record IsMap (eq : K → K → Bool) (st : State K V S H) : Type 0 where
    pub distinct : IsDistinct eq (keys_of st.pairs)
    pub sized : IsSized st
    pub paid : IsPaid (potential st) st.counts

  abbrev pub FreesGrowth : State K V S H → State K V S H → Type 0
  FreesGrowth old new = GivesBack (length old.pairs) (length new.pairs) old.table.states new.table.states

  -- all pairs moved into a table of `count` buckets, which has no deleted bucket
  pub record MovesTo (count : ℕ) (old new : State K V S H) : Type 0 where
    pub table : buckets new ≡ count
    pub exact : length old.pairs + growth_left new ≡ full_capacity count
    pub state : new ≡ record old {
      table = new.table;
      counts = record old.counts { insertions = count_up old.counts.insertions (length old.pairs) };
    }

  -- `new` is `old` with the contents `left`, after pairs were evicted or removed. Apart from the contents, only the
  -- bucket states and the places may have changed.
  pub record Leaves (old : State K V S H) (left : Contents K V S) (new : State K V S H) : Type 0 where
    pub is : new ≡ record old { pairs = left.pairs; limiter = left.limiter; table = new.table }
    pub growth_left : FreesGrowth old new

module _ {K V S : Type 0} (rules : Rules K V S) where
  -- the limiter after it was notified of the removed pair, if a pair was removed
  abbrev pub notified_of : Option (K × V) → S → S
  notified_of None s = s
  notified_of (Some pair) s = (rules.on_removed s pair.0 pair.1).limiter

  -- the contents with the pairs `left`, after the limiter was notified of the removed pair `gone`, if any
  abbrev pub after_removal : Option (K × V) → List (K × V) → S → Contents K V S
  after_removal gone left s = record { pairs = left; limiter = notified_of gone s }

  -- the contents without the oldest pair, after the limiter was notified of the removal
  abbrev pub pop : Contents K V S → Contents K V S
  pop c = after_removal (last c.pairs) (without_last c.pairs) c.limiter

  -- the contents after n pops of the oldest pair
  abbrev pub pops : ℕ → Contents K V S → Contents K V S
  pops zero c = c
  pops (suc n) c = pops n (pop c)

  abbrev pub trim_from : ℕ → Contents K V S → Contents K V S
  trim_from zero c = c
  trim_from (suc n) c = if rules.is_over_the_limit c.limiter (suc n) then trim_from n (pop c) else c

  -- the contents after the oldest pairs were evicted, one by one, while the limiter was over its limit
  unfoldable pub trim : Contents K V S → Contents K V S
  trim c = trim_from (length c.pairs) c

  -- no pair is left, or the limiter is not over its limit
  abbrev pub IsWithin : Contents K V S → Type 0
  IsWithin c = (c.pairs ≡ []) ⊎ (rules.is_over_the_limit c.limiter (length c.pairs) ≡ false)

abbrev pub Trims : {K V S H : Type 0} → Rules K V S → State K V S H → State K V S H → Type 0
Trims rules old new = Leaves old (trim rules (contents old)) new
