use Rattle.std.proofs.Common.{◌≡◌, ◌≢◌, ℕ, ◌+◌, ◌*◌, ◌/◌, ◌^◌, ◌<◌, ◌≤◌, inl, inr, ◌⊎◌, length, Some, refl, arith}
use Rattle.std.proofs.Common.{pow-add, pow_pos}
use Rattle.std.proofs.Math.Nat.{mul-le-mul_right}
use Rattle.group_table.specs.Sizes.{IsBucketCount, full_capacity}
use Rattle.group_table.proofs.PowerLemmas.{power_gap}
use Rattle.lru_model.specs.Sizes.{Target, no_table, same_table, new_table, usage}
use Rattle.lru_model.specs.State.{State, buckets, IsSized}
use Rattle.lru_model.specs.Place.{table_for}
use Rattle.lru_model.specs.Exact.{HasTables}
use Rattle.lru_model.proofs.TableSizes.Doubling.{target_keeps}
use Rattle.lru_model.proofs.TableSizes.Growth.{target_new, target_usage, target_doubles, target-same, usage_bytes}
use Rattle.lru_model.proofs.TableSizes.Growth.{full_capacity-at_most}
use Rattle.lru_model.proofs.TableSizes.ReachedTables.{has_target_of_fit}
use Rattle.lru_model.proofs.Theorems.Reservations.{target_takes}

few_buckets : (k e n bytes : ℕ) → n ≡ 4 * 2 ^ k → 0 < e → usage e n ≡ Some bytes → 7 * n < 2 ^ 64
few_buckets k e n bytes size some usable =
    let b = usage_bytes e n bytes (omega (arith, size, pow_pos k)) usable in
    let most : 1 * n ≤ e * n = mul-le-mul_right n some in
    let few : n < 2 ^ 62 = omega (arith, b.0, b.1, most) in
    let gap : 2 * 2 ^ (k + 2) ≤ 2 ^ 62 = power_gap (k + 2) 62 (omega (arith, few, size, pow-add 2 k 2)) in
    omega (arith, gap, size, pow-add 2 k 2)

module _ {K V S H : Type 0} (st : State K V S H) (ok : IsSized st) (some : 0 < st.entry_bytes)
    (next : table_for 1 st ≢ no_table) where
  pub tables_of_next : HasTables st
  tables_of_next = (next, go (table_for 1 st) refl)
    where
      kept : IsBucketCount (buckets st) → (buckets st ≡ 0) ⊎ (buckets st < st.max)
          → length st.pairs + 1 ≤ full_capacity (buckets st) / 2 → table_for 0 st ≢ no_table
      kept (inr power) (inr below) half = λ h. let same = target_keeps power.0 st.max st.entry_bytes (buckets st)
          (length st.pairs + 0) power.1 below (omega (arith, ok.table.addressable)) (omega (arith, half)) in
          absurd (grind (arith, same, h))
      kept (inl none) r half = absurd (omega (arith, none, half, full_capacity-at_most (buckets st)))
      kept c (inl none) half = absurd (omega (arith, none, half, full_capacity-at_most (buckets st)))

      go : (t : Target) → table_for 1 st ≡ t → table_for 0 st ≢ no_table
      go no_table e = absurd (next e)
      go same_table e = kept ok.table.count ok.reachable
          (target-same st.max st.entry_bytes (buckets st) (length st.pairs + 1) e)
      go (new_table count bytes) e =
          let (power, reached, larger) = target_new st.max st.entry_bytes (buckets st) (length st.pairs + 1) count bytes
          ok.table.count (omega arith) e in
          let usable = target_usage st.max st.entry_bytes (buckets st) (length st.pairs + 1) count bytes e in
          let takes = target_takes st.max st.entry_bytes (buckets st) (length st.pairs + 1) count bytes larger e in
          has_target_of_fit power.0 st.max st.entry_bytes count bytes power.1 reached usable
          (buckets st) (length st.pairs + 0) (few_buckets power.0 st.entry_bytes count bytes power.1 some usable)
          ok.table.count
          (λ p. target_doubles p.0 st.max st.entry_bytes (buckets st) (length st.pairs + 1) count bytes p.1 e)
          (omega (arith, takes))
