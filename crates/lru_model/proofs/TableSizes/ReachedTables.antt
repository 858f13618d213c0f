use Rattle.std.proofs.Common.{◌≡◌, ◌≢◌, ℕ, zero, suc, ◌+◌, ◌-◌, ◌*◌, ◌/◌, ◌^◌, ◌<◌, ◌≤◌, inl, inr, Bool, true}
use Rattle.std.proofs.Common.{false, cond, length, Some, refl, arith, pow-add}
use native.Mathlib.Decide.{dec_lt}
use Rattle.std.specs.Prelude.{nat_lt, nat_le}
use Rattle.std.proofs.lemmas.Bool.Decides.{nat_tests}
use Rattle.std.proofs.lemmas.Bool.{eq-eqb, ne_eqb, le-leb}
use Rattle.group_table.specs.Sizes.{IsBucketCount, IsPowerFromFour, full_capacity, buckets_for}
use Rattle.group_table.proofs.PowerLemmas.{power_gap}
use Rattle.lru_model.specs.Exact.{HasTables, HasTableFor}
use Rattle.lru_model.specs.Sizes.{bytes_of, usage, no_table, same_table, new_table, table_with, target}
use Rattle.lru_model.specs.Sizes.{max_of_32_bits}
use Rattle.lru_model.specs.State.{State, buckets, IsSized}
use Rattle.lru_model.specs.Place.{table_for}
use Rattle.lru_model.proofs.TableSizes.Budgets.{bytes_mono}
use Rattle.lru_model.proofs.TableSizes.Doubling.{fit_needs, half_needs}
use Rattle.lru_model.proofs.TableSizes.Growth.{full_capacity-at_most, full_capacity-eighths, full_capacity-mono}
use Rattle.lru_model.proofs.TableSizes.Growth.{usage_addressable, usage_bytes}

usage_of_less : (e m n bytes : ℕ) → m ≤ n → usage e n ≡ Some bytes → (other : ℕ) × (usage e m ≡ Some other)
unfolding usage
usage_of_less e m n bytes h is = elim (dec_lt 0 m) [
  | yes p ↦ (
    bytes_of e m,
    rw (
      ne_eqb m 0 (λ z. omega (arith, z, p)),
      le-leb (bytes_of e m) (2 ^ 63 - 16)
          (omega (arith, (usage_bytes e n bytes (omega (arith, p, h)) is).1, bytes_mono e m n h)),
    ) refl,
  )
  | no p ↦ (0, rw (eq-eqb m 0 (omega (arith, p))) refl)
]

double_takes : (k b : ℕ) → b ≡ 4 * 2 ^ k → full_capacity (2 * b) ≤ 2 * full_capacity b + 1
unfolding full_capacity
double_takes zero b size = grind (arith, nat_tests, size)
double_takes (suc zero) b size = grind (arith, nat_tests, size)
double_takes (suc (suc k)) b size =
    let p : b ≡ 16 * 2 ^ k = omega (arith, size, pow-add 2 k 2) in
    let q : b / 8 * 8 ≡ b = omega (arith, p) in grind (arith, nat_tests, p, q)

twice_within : (j k b count : ℕ) → b ≡ 4 * 2 ^ j → count ≡ 4 * 2 ^ k → full_capacity b < full_capacity count
    → 2 * b ≤ count
twice_within j k b count power size fewer =
    let p : b ≡ 2 ^ (j + 2) = omega (arith, power, pow-add 2 j 2) in
    let q : count ≡ 2 ^ (k + 2) = omega (arith, size, pow-add 2 k 2) in
    let more : b < count = elim (dec_lt b count) [
      | yes l ↦ l
      | no l ↦ absurd (omega (arith, fewer, full_capacity-mono count b (omega (arith, l))))
    ] in
    let gap : 2 * 2 ^ (j + 2) ≤ 2 ^ (k + 2) = power_gap (j + 2) (k + 2) (omega (arith, p, q, more)) in
    omega (arith, gap, p, q)

module _ (k max e count bytes : ℕ) (size : count ≡ 4 * 2 ^ k) (reached : count < max)
    (usable : usage e count ≡ Some bytes) where
  some_table : (m : ℕ) → m ≤ count → table_with e (Some m) ≢ no_table
  some_table m h is = let (other, u) = usage_of_less e m count bytes h usable in
      let table : new_table m other ≡ no_table = rw u at is in absurd (grind (arith, table))

  -- a reservation for c pairs needs at most `count` buckets
  abbrev Fits : ℕ → Type 0
  Fits c = (need : ℕ) × (buckets_for max c ≡ Some need) × (need ≤ count)

  half_fits : (c : ℕ) → c ≤ full_capacity count / 2 → Fits c
  half_fits c = half_needs k max count c size reached (omega (arith, usage_addressable e count bytes usable))

  module _ (b c : ℕ) where
    target_there : Fits c → (full_capacity b / 2 < c → Fits (full_capacity (2 * b))) → target max e b c ≢ no_table
    unfolding target
    target_there (need, is, small) double h =
        split (nat_lt b need) (nat_le c (full_capacity b / 2)) (λ f. grind (arith, nat_tests, f)) (rw is at h)
      where
        split : (t u : Bool) → (u ≡ false → full_capacity b / 2 < c) → cond t (table_with e (Some need))
            (cond u same_table (table_with e (buckets_for max (full_capacity (2 * b))))) ≡ no_table → ⊥
        split true u f h = some_table need small h
        split false true f h = absurd (grind (arith, h))
        split false false f h = let (need, is, small) = double (f refl) in some_table need small (rw is at h)

    pub has_target : IsBucketCount b → 8 * c ≤ full_capacity count → target max e b c ≢ no_table
    has_target sized many = target_there (half_fits c (omega (arith, many)))
        (λ more. half_fits (full_capacity (2 * b)) (twice more sized))
      where
        twice : full_capacity b / 2 < c → IsBucketCount b → full_capacity (2 * b) ≤ full_capacity count / 2
        twice more (inl none) = omega (arith, none, full_capacity-at_most (2 * b))
        twice more (inr power) = omega (arith, double_takes power.0 b power.1, more, many)

    module _ (notified : 7 * count < 2 ^ 64) where
      double_fits : (full_capacity b / 2 < c → IsPowerFromFour b → 2 * b ≤ count) → IsBucketCount b
          → full_capacity b / 2 < c → Fits (full_capacity (2 * b))
      double_fits twice (inl none) more =
          half_fits (full_capacity (2 * b)) (omega (arith, none, full_capacity-at_most (2 * b)))
      double_fits twice (inr (j, power)) more =
          let large : 2 * b ≤ count = twice more (j, power) in
          let (need, is, small) = fit_needs (suc j) max (2 * b) (full_capacity (2 * b))
          (omega (arith, power, pow-add 2 j 1)) (omega (arith, large, reached))
          (omega (arith, large, notified, full_capacity-eighths (2 * b))) (omega arith) in
          (need, is, omega (arith, small, large))

      pub has_target_of_half : IsBucketCount b → 2 * c ≤ full_capacity count → target max e b c ≢ no_table
      has_target_of_half sized many = target_there (half_fits c (omega (arith, many))) (double_fits
          (λ more power. twice_within power.0 k b count power.1 size (omega (arith, more, many))) sized)

      pub has_target_of_fit : IsBucketCount b → (IsPowerFromFour b → 2 * b ≤ count) → c ≤ full_capacity count
          → target max e b c ≢ no_table
      has_target_of_fit sized twice fits = target_there
          (fit_needs k max count c size reached (omega (arith, fits, notified, full_capacity-eighths count)) fits)
          (double_fits (λ more. twice) sized)

pub has_tables : {K V S H : Type 0} (n : ℕ) (st : State K V S H) → HasTableFor n st → 8 * (length st.pairs + 1) ≤ n
    → IsSized st → HasTables st
has_tables n st t few ok =
    let target_for = has_target t.power.0 st.max st.entry_bytes t.count t.bytes t.power.1 t.reached t.usable
    (buckets st) in (
      target_for (length st.pairs + 1) ok.table.count (omega (arith, t.takes, few)),
      target_for (length st.pairs + 0) ok.table.count (omega (arith, t.takes, few)),
    )

pub has_table_of_half : {K V S H : Type 0} (st : State K V S H) → st.max ≡ max_of_32_bits
    → st.entry_bytes < 2 ^ 32 - 1 → IsBucketCount (buckets st) → length st.pairs + 1 ≤ 939524096
    → table_for 1 st ≢ no_table
unfolding full_capacity usage
has_table_of_half st links entry sized few = has_target_of_half 29 st.max st.entry_bytes (2 ^ 31)
    (bytes_of st.entry_bytes (2 ^ 31)) refl (omega (arith, links))
    (rw (le-leb (bytes_of st.entry_bytes (2 ^ 31)) (2 ^ 63 - 16) (omega (arith, entry))) refl)
    (buckets st) (length st.pairs + 1) (omega arith) sized (omega (arith, few))
