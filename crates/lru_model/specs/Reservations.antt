-- What `try_reserve` does.
use Rattle.std.specs.Prelude.{◌≡◌, ◌⊎◌, ℕ, ◌+◌, ◌^◌, ◌≤◌, ◌<◌, length, Result, Ok, Err}
use Rattle.lru_limits.specs.Rules.{Rules}
use Rattle.lru_model.specs.Sizes.{no_table, same_table, new_table}
use Rattle.lru_model.specs.State.{State, buckets, growth_left, MovesTo}
use Rattle.lru_model.specs.Place.{table_for, asked, Grants, Denies}
use Rattle.lru_model.specs.declared.results.ReserveError.{ReserveError}
use Rattle.lru_model.specs.declared.results.ReserveError.TheVariants.{TooLarge, Refused, Memory}

module _ {K V S H : Type 0} (n : ℕ) (st : State K V S H) where
  -- `growth_left` is less than n, and the number of pairs plus n is below 2 ^ 64
  abbrev pub NeedsGrowthFor : Type 0
  NeedsGrowthFor = (growth_left st < n) × (length st.pairs + n < 2 ^ 64)

  -- why a reservation changes nothing
  pub data ReservesNothing (result : Result (Unit {0}) ReserveError) : Type 0 where
    enough_room : n ≤ growth_left st → length st.pairs + n < 2 ^ 64 → result ≡ Ok tt → ReservesNothing result
    -- The number of pairs plus n does not fit 64 bits, or there is no table for this sum.
    too_many : 2 ^ 64 ≤ length st.pairs + n → result ≡ Err TooLarge → ReservesNothing result
    no_such_table : NeedsGrowthFor → table_for n st ≡ no_table → result ≡ Err TooLarge → ReservesNothing result
    -- The allocation for a rehash fails. A rehash needs memory only if the map has pairs.
    no_memory_to_rehash : NeedsGrowthFor → table_for n st ≡ same_table → 0 < length st.pairs → result ≡ Err Memory →
        ReservesNothing result

module _ {K V S H : Type 0} (rules : Rules K V S) where
  -- why a table does not grow after the limiter was queried: the allocation fails, or the limiter refuses the table
  abbrev pub FailsToGrow : ℕ → State K V S H → Result (Unit {0}) ReserveError → Type 0
  FailsToGrow bytes st result =
      (Grants rules bytes st × (result ≡ Err Memory)) ⊎ (Denies rules bytes st × (result ≡ Err Refused))

  -- A reservation of growth for n pairs fails, or leaves growth for at least n pairs. All pairs stay.
  pub data Reserve (n : ℕ) (old : State K V S H) (result : Result (Unit {0}) ReserveError)
      (new : State K V S H) : Type 0 where
    unchanged : ReservesNothing n old result → new ≡ old →
        Reserve n old result new
    -- The table is rehashed, and keeps its number of buckets. The limiter is not queried.
    rehashed : NeedsGrowthFor n old → table_for n old ≡ same_table →
        result ≡ Ok tt → MovesTo (buckets old) old new →
        Reserve n old result new
    -- The limiter permits the larger table, and the table grows.
    reserved : NeedsGrowthFor n old → (count bytes : ℕ) → table_for n old ≡ new_table count bytes
        → Grants rules bytes old →
        result ≡ Ok tt → MovesTo count (asked rules bytes old) new →
        Reserve n old result new
    -- The limiter was queried for a larger table, but the table does not grow.
    asked_only : NeedsGrowthFor n old → (count bytes : ℕ) → table_for n old ≡ new_table count bytes
        → FailsToGrow bytes old result → new ≡ asked rules bytes old →
        Reserve n old result new
