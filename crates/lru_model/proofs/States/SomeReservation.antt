use Rattle.std.proofs.Common.{◌≡◌, ℕ, ◌+◌, ◌-◌, ◌^◌, ◌≤◌, Bool, true, false, Result, Ok, Err, List, [], length}
use Rattle.std.proofs.Common.{replicate, refl, subst, arith, inl, inr}
use native.Mathlib.Decide.{dec_lt}
use Rattle.group_table.specs.Bucket.{empty}
use Rattle.group_table.specs.Change.{count_up}
use Rattle.group_table.specs.Sizes.{full_capacity}
use Rattle.group_table.proofs.BucketLemmas.{used_count-split}
use Rattle.lru_limits.specs.Rules.{Rules}
use Rattle.lru_model.specs.Calls.{cleared}
use Rattle.lru_model.specs.State.{State, buckets, growth_left, IsSound, IsSized}
use Rattle.lru_model.specs.Place.{table_for, asked}
use Rattle.lru_model.specs.Reservations.{NeedsGrowthFor, Reserve, unchanged, rehashed, asked_only, enough_room}
use Rattle.lru_model.specs.Reservations.{too_many}
use Rattle.lru_model.specs.Reservations.{no_such_table}
use Rattle.lru_model.specs.Sizes.{Target, no_table, same_table, new_table}
use Rattle.lru_model.specs.declared.results.ReserveError.{ReserveError}
use Rattle.lru_model.specs.declared.results.ReserveError.TheVariants.{TooLarge, Refused, Memory}
use Rattle.lru_model.proofs.TableSizes.SomeStates.{some_states, length-some_states, growth_left-some_states, sized-some_states}

pub cleared_sized : {K V S H : Type 0} (rules : Rules K V S) (old : State K V S H) → IsSized old
    → IsSized (cleared rules old)
cleared_sized {K = K} {V = V} rules old ok =
    let none : List (K × V) = [] in
    let sized_empty = sized-some_states old ok none 0 (omega arith) (λ _. refl) old.counts ok.moved ok.placed refl in
    let as_many : buckets old - 0 - 0 ≡ buckets old = omega arith in
    subst (λ n. IsSound 0 old.entry_bytes old.max (replicate n empty) old.counts) as_many sized_empty

module _ {K V S H : Type 0} (rules : Rules K V S) (n : ℕ) (old : State K V S H) (ok : IsSized old) where
  abbrev pub CanReserve : Type 0
  CanReserve = (result : Result (Unit {0}) ReserveError) × (new : State K V S H) × Reserve rules n old result new
      × IsSized new

  some_remade : NeedsGrowthFor n old → table_for n old ≡ same_table → CanReserve
  some_remade needs_growth is =
      let within : length old.pairs + 0 ≤ full_capacity (buckets old) = omega
      (arith, used_count-split old.table.states, ok.taken, ok.table.used_within) in
      let new : State K V S H = record old {
        table = record old.table { states = some_states old ok old.pairs 0 within };
        counts = record old.counts { insertions = count_up old.counts.insertions (length old.pairs) };
      } in (
        Ok tt,
        new,
        rehashed needs_growth is refl
            (record {
              table = length-some_states old ok old.pairs 0 within;
              exact = omega (arith, growth_left-some_states old ok old.pairs 0 within, within);
              state = refl;
            }),
        sized-some_states old ok old.pairs 0 within (λ _. refl) new.counts ok.moved ok.placed refl,
      )

  some_asked : NeedsGrowthFor n old → (count bytes : ℕ) → table_for n old ≡ new_table count bytes → (allowed : Bool)
      → (rules.on_grow old.limiter bytes).allowed ≡ allowed → CanReserve
  some_asked needs_growth count bytes is true grants =
      (Err Memory, asked rules bytes old, asked_only needs_growth count bytes is (inl (grants, refl)) refl, ok)
  some_asked needs_growth count bytes is false denies =
      (Err Refused, asked rules bytes old, asked_only needs_growth count bytes is (inr (denies, refl)) refl, ok)

  some_table : NeedsGrowthFor n old → (t : Target) → table_for n old ≡ t → CanReserve
  some_table needs_growth no_table is = (Err TooLarge, old, unchanged (no_such_table needs_growth is refl) refl, ok)
  some_table needs_growth same_table is = some_remade needs_growth is
  some_table needs_growth (new_table count bytes) is = some_asked needs_growth count bytes is
      (rules.on_grow old.limiter bytes).allowed refl

  pub some_reservation : CanReserve
  some_reservation = elim (dec_lt (length old.pairs + n) (2 ^ 64)) [
    | no many ↦ (Err TooLarge, old, unchanged (too_many (omega (arith, many)) refl) refl, ok)
    | yes fits ↦ elim (dec_lt (growth_left old) n) [
      | no enough ↦ (Ok tt, old, unchanged (enough_room (omega (arith, enough)) fits refl) refl, ok)
      | yes needs_growth ↦ some_table (needs_growth, fits) (table_for n old) refl
    ]
  ]
