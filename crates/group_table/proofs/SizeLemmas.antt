use Rattle.std.proofs.Common.{◌≡◌, ℕ, ◌+◌, ◌-◌, ◌*◌, ◌/◌, ◌^◌, ◌<◌, ◌≤◌, inr, arith, sym, ap, ◌∙◌}
use Rattle.std.specs.Int.{IsPowerOfTwo}
use Rattle.std.proofs.Math.Pow.{pow_mono}
use Rattle.std.proofs.lemmas.Nat.{pow-add}
use Rattle.std.proofs.lemmas.Bool.Decides.{nat_tests}
use native.Mathlib.Decide.{dec_lt}
use Rattle.group_table.specs.Sizes.{IsPowerFromFour, IsBucketCount, full_capacity}

pub full_capacity-small : (n : ℕ) → n ≤ 8 → full_capacity n ≡ n - 1
unfolding full_capacity
full_capacity-small n h = grind (arith, nat_tests)

pub full_capacity-large : (n : ℕ) → 8 < n → full_capacity n ≡ n / 8 * 7
unfolding full_capacity
full_capacity-large n h = grind (arith, nat_tests)

pub power_pos : (n : ℕ) → IsPowerFromFour n → 4 ≤ n
power_pos n s = let z : 2 ^ 0 ≤ 2 ^ s.0 = pow_mono {i = 0} {j = s.0} (omega arith) in omega (arith, s.1)

pub power_is : (n : ℕ) → (s : IsPowerFromFour n) → n ≡ 2 ^ (2 + s.0)
power_is n s = s.1 ∙ sym (pow-add 2 2 s.0)

pub full_capacity-lt : (n : ℕ) → IsPowerFromFour n → full_capacity n < n
full_capacity-lt n s =
    elim (dec_lt 8 n) [
      | yes q ↦ omega (arith, full_capacity-large n q)
      | no q ↦ omega (arith, full_capacity-small n (omega arith), power_pos n s)
    ]

pub power_above : (n : ℕ) → IsPowerOfTwo n → 8 < n → (m : ℕ) × (n ≡ 8 * m) × (2 ≤ m) × IsPowerFromFour n
power_above n s p =
    elim (dec_lt s.0 4) [
      | yes q ↦ absurd (let z : 2 ^ s.0 ≤ 2 ^ 3 = pow_mono {i = s.0} {j = 3} (omega arith) in omega (arith, s.1))
      | no q ↦
          let k = s.0 - 3 in
          let z : 2 ^ 1 ≤ 2 ^ k = pow_mono {i = 1} {j = k} (omega arith) in
          let e : s.0 ≡ 3 + k = omega arith in
          let d : n ≡ 2 ^ 3 * 2 ^ k = s.1 ∙ ap (λ j. 2 ^ j) e ∙ pow-add 2 3 k in
          let f : s.0 ≡ 2 + (s.0 - 2) = omega arith in
          (2 ^ k, omega (arith, d), omega (arith, z), (s.0 - 2, s.1 ∙ ap (λ j. 2 ^ j) f ∙ pow-add 2 2 (s.0 - 2)))
    ]

pub takes_enough : (c n : ℕ) → IsPowerOfTwo n → 8 ≤ c → c * 8 / 7 ≤ n → IsBucketCount n × (c ≤ full_capacity n)
takes_enough c n s p q =
    let w = power_above n s (omega arith) in
    (inr w.3, omega (arith, full_capacity-large n (omega arith), w.1, w.2))
