-- Places on a circle of n buckets.
use Rattle.std.proofs.Common.{◌≡◌, ℕ, ◌+◌, ◌-◌, ◌*◌, ◌/◌, ◌%◌, ◌<◌, ap, sym, ◌∙◌, arith}
use Rattle.std.proofs.Math.Nat.{mod-add-mod, add-mod_right, add-mul-mod_self_left, mod-eq_of_lt, mod-lt, div-add-mod}
use native.Mathlib.Decide.{dec_le}

pub distance : (n s b : ℕ) → s < n → b < n → (d : ℕ) × (d < n) × ((s + d) % n ≡ b)
distance n s b p q =
    elim (dec_le s b) [
      | yes r ↦ let e : s + (b - s) ≡ b = omega arith in (b - s, omega arith, ap (λ m. m % n) e ∙ mod-eq_of_lt q)
      | no r ↦ let e : s + (b + n - s) ≡ b + n = omega arith in
          (b + n - s, omega arith, ap (λ m. m % n) e ∙ add-mod_right b n ∙ mod-eq_of_lt q)
    ]

pub way_round : (n x k : ℕ) → 0 < n → ((x + k) % n + (n - k % n)) % n ≡ x % n
way_round n x k pos =
    let below = mod-lt k pos in
    let whole = div-add-mod k n in
    let e : x + k + (n - k % n) ≡ x + n * (k / n + 1) = omega (arith, below, whole) in
    mod-add-mod (x + k) n (n - k % n) ∙ ap (λ j. j % n) e ∙ add-mul-mod_self_left x n (k / n + 1)

pub same_place : (n x y k b : ℕ) → x < n → y < n → (x + k) % n ≡ b → (y + k) % n ≡ b → x ≡ y
same_place n x y k b p q e f =
    sym (mod-eq_of_lt p) ∙ sym (way_round n x k (omega arith)) ∙ ap (λ j. (j + (n - k % n)) % n) (e ∙ sym f)
    ∙ way_round n y k (omega arith) ∙ mod-eq_of_lt q

pub mod_cancel : (n k x y : ℕ) → 0 < n → (k + x) % n ≡ (k + y) % n → x % n ≡ y % n
mod_cancel n k x y pos e =
    let turn : (z : ℕ) → (z + k) % n ≡ (k + z) % n = λ z. let f : z + k ≡ k + z = omega arith in ap (λ j. j % n) f in
    sym (way_round n x k pos) ∙ ap (λ j. (j + (n - k % n)) % n) (turn x ∙ e ∙ sym (turn y)) ∙ way_round n y k pos
