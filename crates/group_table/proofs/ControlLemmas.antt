use Rattle.std.proofs.Common.{◌≡◌, ◌≢◌, ℕ, ◌+◌, ◌-◌, ◌<◌, ◌≤◌, max, List, length, replicate, set, get_or, Option}
use Rattle.std.proofs.Common.{ap, sym, ◌∙◌, arith, inl, inr, length-set, get_or-set_same, get_or-set_other}
use Rattle.std.proofs.Common.{◌*◌, ◌%◌, ◌^◌, pow_pos, pow_mono}
use Rattle.std.proofs.Math.Nat.{add-mul-mod_self_left, mod-eq_of_lt}
use Rattle.std.proofs.lemmas.Nat.{pow-add}
use Rattle.std.proofs.lemmas.List.{length-replicate, get_or-replicate}
use native.Mathlib.Decide.{dec_lt}
use Rattle.std.proofs.lemmas.Bool.{cases_eq}
use Rattle.group_table.specs.Sizes.{IsPowerFromFour}
use Rattle.group_table.specs.Bytes.{empty_byte}
use Rattle.group_table.proofs.SizeLemmas.{power_is}
use Rattle.group_table.specs.Control.{buckets_of, IsCircle, IsControl}
use Rattle.group_table.specs.Layout.{IsLaidOut}

pub buckets_are : {T : Type 0} (control : List ℕ) (entries : List (Option T)) → IsLaidOut control entries
    → buckets_of control ≡ length entries
buckets_are control entries laid_out =
    elim laid_out.counts [ inl w ↦ omega (arith, w.0, w.1) | inr w ↦ omega (arith, w.1) ]

pub circle_of : (control : List ℕ) (last : ℕ) → IsControl control last → 0 < buckets_of control → IsCircle control
circle_of control last (inl none) some = let e : length control ≡ 0 = ap length none.0 in absurd (omega (arith, e))
circle_of control last (inr w) some = w.0

pub last_of : (control : List ℕ) (last : ℕ) → IsControl control last → 0 < buckets_of control
    → last + 1 ≡ buckets_of control
last_of control last (inl none) some = let e : length control ≡ 0 = ap length none.0 in absurd (omega (arith, e))
last_of control last (inr w) some = w.1

pub IsCircle-empty : (n : ℕ) → IsPowerFromFour n → n + 16 < 2 ^ 63 → IsCircle (replicate (n + 16) empty_byte)
IsCircle-empty n power fits =
    let long : length (replicate (n + 16) empty_byte) ≡ n + 16 = length-replicate (n + 16) empty_byte in
    let same : buckets_of (replicate (n + 16) empty_byte) ≡ n = omega (arith, long) in
    let at = λ (k : ℕ) (p : k < n + 16). get_or-replicate (n + 16) k empty_byte 0 p in
    record {
      power = rw same power;
      long = omega (arith, long);
      fits = rw long fits;
      repeated = rw same (record {
        again = λ p past inside. at p inside ∙ sym (at (p - max 16 n) (omega (arith, inside)));
        between = λ p past low. at p (omega (arith, low));
      });
    }

module _ (control : List ℕ) (b byte : ℕ) (circle : IsCircle control) (within : b < buckets_of control) where
  abbrev n : ℕ
  n = buckets_of control

  abbrev after : List ℕ
  after = set (set control b byte) (b + max 16 (buckets_of control)) byte

  same_length : length after ≡ length control
  same_length = length-set (set control b byte) (b + max 16 n) byte ∙ length-set control b byte

  pub same_buckets : buckets_of after ≡ buckets_of control
  same_buckets = ap (λ k. k - 16) same_length

  other : (p : ℕ) → p ≢ b → p ≢ b + max 16 n → get_or after p 0 ≡ get_or control p 0
  other p h k = get_or-set_other (set control b byte) (b + max 16 n) p byte 0 k ∙ get_or-set_other control b p byte 0 h

  there : get_or after b 0 ≡ byte
  there = get_or-set_other (set control b byte) (b + max 16 n) b byte 0 (λ e. omega (arith, e))
      ∙ get_or-set_same control b byte 0 (omega (arith, within))

  again_there : b + max 16 n < n + 16 → get_or after (b + max 16 n) 0 ≡ byte
  again_there inside =
      get_or-set_same (set control b byte) (b + max 16 n) byte 0
      (omega (arith, inside, length-set control b byte, circle.long))

  again : (p : ℕ) → max 16 n ≤ p → p < n + 16 → get_or after p 0 ≡ get_or after (p - max 16 n) 0
  again p past inside =
      elim (cases_eq p (b + max 16 n)) [
        | inl e ↦
            let back : p - max 16 n ≡ b = omega (arith, e) in
            ap (λ k. get_or after k 0) e ∙ again_there (omega (arith, e)) ∙ sym there
            ∙ ap (λ k. get_or after k 0) (sym back)
        | inr h ↦
            other p (λ e. omega (arith, e, within)) h ∙ circle.repeated.again p past inside
            ∙ sym (other (p - max 16 n) (λ e. h (omega (arith, e))) (λ e. omega (arith, e)))
      ]

  pub IsCircle-set : IsCircle (set (set control b byte) (b + max 16 (buckets_of control)) byte)
  IsCircle-set = record {
    power = rw same_buckets circle.power;
    long = omega (arith, same_length, circle.long);
    fits = rw same_length circle.fits;
    repeated = rw same_buckets (record {
      again = again;
      between = λ p past low. other p (λ e. omega (arith, e, within)) (λ e. omega (arith, e))
          ∙ circle.repeated.between p past low;
    });
  }

module _ (n b : ℕ) (power : IsPowerFromFour n) (fits : n < 2 ^ 64) (word : b < 2 ^ 64) where
  turns : (q : ℕ) × (2 ^ 64 ≡ n * q) × (0 < q)
  turns = elim (dec_lt 62 power.0) [
    | yes p ↦ absurd (let m : 2 ^ 63 ≤ 2 ^ power.0 = pow_mono p in omega (arith, m, power.1, fits))
    | no p ↦
        let whole : 2 ^ (2 + power.0 + (62 - power.0)) ≡ 2 ^ (2 + power.0) * 2 ^ (62 - power.0) =
        pow-add 2 (2 + power.0) (62 - power.0) in
        let same : 2 + power.0 + (62 - power.0) ≡ 64 = omega (arith, p) in (
          2 ^ (62 - power.0),
          ap (λ k. 2 ^ k) (sym same) ∙ whole ∙ ap (λ k. k * 2 ^ (62 - power.0)) (sym (power_is n power)),
          pow_pos (62 - power.0),
        )
  ]

  small_turns : n < 16 → (c : ℕ) × (16 ≡ n * c)
  small_turns p = elim (dec_lt power.0 1) [
    | yes q ↦ let e : power.0 ≡ 0 = omega (arith, q) in (4, omega (arith, power.1 ∙ ap (λ k. 4 * 2 ^ k) e))
    | no q ↦ elim (dec_lt 1 power.0) [
      | yes r ↦ absurd (let m : 2 ^ 2 ≤ 2 ^ power.0 = pow_mono r in omega (arith, m, power.1, p))
      | no r ↦ let e : power.0 ≡ 1 = omega (arith, q, r) in (2, omega (arith, power.1 ∙ ap (λ k. 4 * 2 ^ k) e))
    ]
  ]

  around : (w c : ℕ) → w + 16 ≡ b + n * c → w % n ≡ (b + (n - 16)) % n
  around w c e = elim (dec_lt n 16) [
    | yes p ↦
        let s = small_turns p in
        let on : w + n * s.0 ≡ b + (n - 16) + n * c = omega (arith, e, s.1, p) in
        sym (add-mul-mod_self_left w n s.0) ∙ ap (λ k. k % n) on ∙ add-mul-mod_self_left (b + (n - 16)) n c
    | no p ↦
        let on : w + n * 1 ≡ b + (n - 16) + n * c = omega (arith, e, p) in
        sym (add-mul-mod_self_left w n 1) ∙ ap (λ k. k % n) on ∙ add-mul-mod_self_left (b + (n - 16)) n c
  ]

  pub back_sixteen : ((b + (2 ^ 64 - 16)) % 2 ^ 64) % n ≡ (b + (n - 16)) % n
  back_sixteen = elim (dec_lt b 16) [
    | yes p ↦
        let t = turns in
        ap (λ k. k % n) (mod-eq_of_lt (omega (arith, p)))
        ∙ around (b + (2 ^ 64 - 16)) t.0 (omega (arith, t.1))
    | no p ↦
        let on : b + (2 ^ 64 - 16) ≡ b - 16 + 2 ^ 64 * 1 = omega (arith, p) in
        ap (λ k. k % n) (ap (λ k. k % 2 ^ 64) on ∙ add-mul-mod_self_left (b - 16) (2 ^ 64) 1
        ∙ mod-eq_of_lt (omega (arith, word)))
        ∙ around (b - 16) 0 (omega (arith, p))
  ]
