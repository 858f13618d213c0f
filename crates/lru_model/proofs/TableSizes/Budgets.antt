use Rattle.std.proofs.Common.{◌≡◌, ℕ, ◌+◌, ◌-◌, ◌*◌, ◌^◌, ◌<◌, ◌≤◌, ◌⊎◌, inl, inr, Some, None, refl, sym, ◌∙◌, arith}
use Rattle.std.proofs.Common.{Bool, true, false, cond, pow_pos}
use native.Mathlib.Decide.{dec_lt}
use Rattle.std.specs.Prelude.{nat_le, ◌==◌}
use Rattle.std.proofs.lemmas.Bool.Decides.{nat_tests}
use Rattle.std.proofs.Math.Nat.{mul-le-mul_left}
use Rattle.std.proofs.Math.Pow.{pow_mono}
use Rattle.std.proofs.lemmas.Option.{same_Some}
use Rattle.group_table.proofs.SizeLemmas.{power_pos}
use Rattle.lru_model.specs.Sizes.{bytes_of, usage, IsGreatestUsage}
use Rattle.lru_model.specs.State.{State, buckets, IsSized}
use Rattle.lru_model.proofs.TableSizes.Growth.{usage_bytes, usage_addressable}

no_usage : (e n : ℕ) → n ≡ 0 → usage e n ≡ Some 0
unfolding usage
no_usage e n z = rw z refl

pub bytes_mono : (e m n : ℕ) → m ≤ n → bytes_of e m ≤ bytes_of e n
bytes_mono e m n h = let less : e * m ≤ e * n = mul-le-mul_left e h in omega (arith, less, h)

usage_mono : (e m n a b : ℕ) → 0 < m → m ≤ n → usage e m ≡ Some a → usage e n ≡ Some b → a ≤ b
usage_mono e m n a b some h p q = omega
    (arith, (usage_bytes e m a some p).0, (usage_bytes e n b (omega (arith, some, h)) q).0, bytes_mono e m n h)

usage_is : (e n : ℕ) → 0 < n → bytes_of e n ≤ 2 ^ 63 - 16 → usage e n ≡ Some (bytes_of e n)
unfolding usage
usage_is e n some fits = go (n == 0) (nat_le (bytes_of e n) (2 ^ 63 - 16)) (λ z. grind (arith, nat_tests))
    (λ z. grind (arith, nat_tests))
  where
    go : (b c : Bool) → (b ≡ true → n ≡ 0) → (c ≡ false → 2 ^ 63 - 16 < bytes_of e n)
        → cond b (Some 0) (cond c (Some (bytes_of e n)) None) ≡ Some (bytes_of e n)
    go true c z l = absurd (omega (arith, z refl, some))
    go false true z l = refl
    go false false z l = absurd (omega (arith, l refl, fits))

pub usage_fewer : (e m n bytes : ℕ) → m ≤ n → usage e n ≡ Some bytes
    → (less : ℕ) × (usage e m ≡ Some less) × (less ≤ bytes)
usage_fewer e m n bytes fewer is = elim (dec_lt 0 m) [
  | no none ↦ (0, no_usage e m (omega (arith, none)), omega arith)
  | yes some ↦ let all = usage_bytes e n bytes (omega (arith, some, fewer)) is in
      let less = bytes_mono e m n fewer in
      (bytes_of e m, usage_is e m some (omega (arith, less, all.1)), omega (arith, less, all.0))
]

module _ (max e budget : ℕ) where
  -- the greatest usage within the budget of tables below 4 * 2 ^ k buckets
  pub record IsBest (k best : ℕ) : Type 0 where
    pub within : best ≤ budget
    pub of_table : (best ≡ 0) ⊎ ((j : ℕ) × (j < k) × (4 * 2 ^ j < max) × (usage e (4 * 2 ^ j) ≡ Some best))
    pub greatest : (j other : ℕ) → j < k → 4 * 2 ^ j < max → usage e (4 * 2 ^ j) ≡ Some other → other ≤ budget → other
        ≤ best

  pub best_none : IsBest 0 0
  best_none = record { within = omega arith; of_table = inl refl; greatest = λ j other p. absurd (omega (arith, p)) }

  pub best_takes : (k best bytes : ℕ) → IsBest k best → 4 * 2 ^ k < max → usage e (4 * 2 ^ k) ≡ Some bytes → bytes
      ≤ budget → IsBest (k + 1) bytes
  best_takes k best bytes ok reached is fits = record {
    within = fits;
    of_table = inr (k, omega arith, reached, is);
    greatest = λ j other p r u w. usage_mono e (4 * 2 ^ j) (4 * 2 ^ k) other bytes (omega (arith, pow_pos j))
        (let less : 2 ^ j ≤ 2 ^ k = pow_mono {i = j} {j = k} (omega (arith, p)) in omega (arith, less)) u is;
  }

  pub best_stays : (k best : ℕ) → IsBest k best → ((other : ℕ) → 4 * 2 ^ k < max → usage e (4 * 2 ^ k) ≡ Some other
      → other ≤ budget → ⊥) → IsBest (k + 1) best
  best_stays k best ok none = record {
    within = ok.within;
    of_table = elim ok.of_table [ inl z ↦ inl z | inr t ↦ inr (t.0, omega (arith, t.1), t.2, t.3) ];
    greatest = λ j other p r u w. elim (dec_lt j k) [
      | yes q ↦ ok.greatest j other q r u w
      | no q ↦ let same : j ≡ k = omega (arith, p, q) in absurd (none other (rw same at r) (rw same at u) w)
    ];
  }

  pub best_of_all : (best : ℕ) → IsBest 62 best → IsGreatestUsage max e budget best
  best_of_all best ok = record {
    within = ok.within;
    of_table = elim ok.of_table [ inl z ↦ inl z | inr t ↦ inr (4 * 2 ^ t.0, (t.0, refl), t.2, t.3) ];
    greatest = λ buckets other power r u w. elim (dec_lt power.0 62) [
      | yes q ↦ ok.greatest power.0 other q (rw power.1 at r) (rw power.1 at u) w
      | no q ↦ let large : 2 ^ 62 ≤ 2 ^ power.0 = pow_mono {i = 62} {j = power.0} (omega (arith, q)) in
          absurd (omega (arith, power.1, large, usage_addressable e buckets other u))
    ];
  }

usage_none : (e n bytes : ℕ) → n ≡ 0 → usage e n ≡ Some bytes → bytes ≡ 0
usage_none e n bytes z h = same_Some bytes 0 (sym h ∙ no_usage e n z)

pub usage_is_budget : {K V S H : Type 0} (st : State K V S H) (bytes best : ℕ) → IsSized st
    → usage st.entry_bytes (buckets st) ≡ Some bytes → IsGreatestUsage st.max st.entry_bytes bytes best → best ≡ bytes
usage_is_budget st bytes best ok is g = elim ok.table.count [
  | inl z ↦ let none = usage_none st.entry_bytes (buckets st) bytes z is in omega (arith, none, g.within)
  | inr power ↦ elim ok.reachable [
    | inl z ↦ absurd (omega (arith, z, power_pos (buckets st) power))
    | inr r ↦ let most = g.greatest (buckets st) bytes power r is (omega arith) in omega (arith, most, g.within)
  ]
]
