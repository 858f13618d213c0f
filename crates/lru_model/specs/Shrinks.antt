-- What `shrink_to_fit` does.
use Rattle.std.specs.Prelude.{◌≡◌, ℕ, ◌≤◌, ◌<◌, Bool, true, false, length, Some, IfSome, Result, Ok, IsErr}
use Rattle.std.specs.declared.alloc.AllocError.{AllocError}
use Rattle.group_table.specs.Sizes.{buckets_for}
use Rattle.group_table.specs.Change.{count_up}
use Rattle.lru_model.specs.State.{State, buckets, MovesTo}

module _ {K V S H : Type 0} where
  -- the table has no more buckets than its pairs need
  abbrev pub IsTight : State K V S H → Type 0
  IsTight st = IfSome (buckets_for st.max (length st.pairs)) (λ count. buckets st ≤ count)

  -- the pairs need `count` buckets, and the table has more than `count` buckets
  abbrev pub IsLooseFor : ℕ → State K V S H → Type 0
  IsLooseFor count st = (buckets_for st.max (length st.pairs) ≡ Some count) × (count < buckets st)

  -- the map after the count `shrunk` rose by the number of pairs
  abbrev pub shrink_counted : State K V S H → State K V S H
  shrink_counted st = record st { counts = record st.counts { shrunk = count_up st.counts.shrunk (length st.pairs) } }

  pub data Shrink (old : State K V S H) (result : Result Bool AllocError) (new : State K V S H) : Type 0 where
    kept : IsTight old →
        result ≡ Ok false → new ≡ old →
        Shrink old result new
    -- The pairs move into a table of `count` buckets. If there are no pairs, the table is freed, which needs no memory.
    shrunk : (count : ℕ) → IsLooseFor count old →
        result ≡ Ok true → MovesTo count (shrink_counted old) new →
        Shrink old result new
    no_memory_to_shrink : (count : ℕ) → IsLooseFor count old → 0 < length old.pairs →
        IsErr result → new ≡ old →
        Shrink old result new
