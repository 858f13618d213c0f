use Rattle.std.proofs.Common.{◌≡◌, ℕ, ◌+◌, ◌*◌, ◌/◌, ◌<◌, ◌≤◌, inl, inr, Option, Some, None, length, sym, arith}
use Rattle.std.proofs.Common.{◌⊎◌}
use Rattle.std.specs.Prelude.{IfSome}
use Rattle.group_table.specs.Sizes.{IsPowerFromFour, IsBucketCount, full_capacity}
use Rattle.lru_model.specs.Sizes.{usage, same_table, new_table, larger}
use Rattle.lru_model.specs.State.{State, buckets, IsSized}
use Rattle.lru_model.specs.Place.{table_for}
use Rattle.lru_model.proofs.TableSizes.SizedStates.{fits}
use Rattle.lru_model.proofs.TableSizes.Growth.{target_new, target_usage, target_doubles, full_capacity-at_most}
use Rattle.lru_model.proofs.TableSizes.Growth.{full_capacity-double}
use Rattle.lru_model.proofs.TableSizes.Doubling.{target_keeps}

module _ {K V S H : Type 0} (n : ℕ) (st : State K V S H) (ok : IsSized st) (some : 0 < length st.pairs + n) where
  module _ (count bytes : ℕ) (is : table_for n st ≡ new_table count bytes) where
    there : IsPowerFromFour count × (count < st.max) × (full_capacity (buckets st) ≤ full_capacity count)
    there = target_new st.max st.entry_bytes (buckets st) (length st.pairs + n) count bytes ok.table.count some is

    pub larger_count : IsPowerFromFour count
    larger_count = there.0

    pub larger_reached : count < st.max
    larger_reached = there.1

    pub larger_takes : full_capacity (buckets st) ≤ full_capacity count
    larger_takes = there.2

    pub larger_usable : usage st.entry_bytes count ≡ Some bytes
    larger_usable = target_usage st.max st.entry_bytes (buckets st) (length st.pairs + n) count bytes is

    pub larger_half : 2 * length st.pairs ≤ full_capacity count
    larger_half = go ok.table.count
      where
        go : IsBucketCount (buckets st) → 2 * length st.pairs ≤ full_capacity count
        go (inl none) = omega (arith, none, fits ok, full_capacity-at_most (buckets st))
        go (inr power) = omega (
          arith,
          fits ok,
          full_capacity-double power.0 (buckets st) count power.1
              (target_doubles power.0 st.max st.entry_bytes (buckets st) (length st.pairs + n) count bytes power.1 is),
        )

  pub if_larger : (P : ℕ × ℕ → Type 0) → ((count bytes : ℕ) → table_for n st ≡ new_table count bytes → P (count, bytes))
      → (answer : Option (ℕ × ℕ)) → larger answer ≡ table_for n st → IfSome answer P
  if_larger P holds None e = tt
  if_larger P holds (Some table) e = holds table.0 table.1 (sym e)

  pub stays : length st.pairs + n ≤ full_capacity (buckets st) / 2 → table_for n st ≡ same_table
  stays half = go ok.table.count ok.reachable
    where
      go : IsBucketCount (buckets st) → (buckets st ≡ 0) ⊎ (buckets st < st.max) → table_for n st ≡ same_table
      go (inr power) (inr below) = target_keeps power.0 st.max st.entry_bytes (buckets st)
          (length st.pairs + n) power.1 below (omega (arith, ok.table.addressable)) half
      go (inl none) r = absurd (omega (arith, none, half, some, full_capacity-at_most (buckets st)))
      go c (inl none) = absurd (omega (arith, none, half, some, full_capacity-at_most (buckets st)))
