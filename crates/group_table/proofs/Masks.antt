-- A comparison with one byte, read as a mask of sixteen lanes.
use Rattle.std.proofs.Common.{◌≡◌, ◌≢◌, ◌↔◌, ℕ, zero, suc, ◌-◌, ◌/◌, ◌%◌, ◌^◌, ◌<◌, ◌≤◌, List, Bool, true, false, cond}
use Rattle.std.proofs.Common.{length, get_or, map, replicate, refl, sym, ap, subst, ◌∙◌, arith, w8, w16, w32, pow-suc}
use Rattle.std.proofs.Common.{bit_and, inl, inr, ◌+◌, ◌*◌, nat_lt, pow_mono, pow_pos}
use native.Mathlib.Decide.{dec_lt}
use Rattle.std.specs.Int.{bit_at}
use Rattle.std.specs.Simd.Lanes.{zip2, mask_l, top}
use Rattle.std.proofs.lemmas.Simd.{bit_mask_l, tops_compared, mask_l-mod, mask_l-lt, zip2_splat, zip2_splat_left}
use Rattle.std.proofs.lemmas.List.{length-map, get_or-map}
use Rattle.std.proofs.lemmas.Bool.{cases_lt, lt-ltb, le-ltb}
use Rattle.std.proofs.lemmas.Nat.Bits.{bit_at-lt, bit_at-zero, bit_at_lowest, bit_at-suc, bit_at_and, bit_at_above}
use Rattle.std.proofs.lemmas.Nat.Bits.{bit_at_cat_high, bit_at-trailing_zeros}
use Rattle.std.proofs.lemmas.Nat.Bits.{bit_at_not, bit_at_ones, bit_at_ones_above, same_from_bits_below}
use Rattle.std.proofs.lemmas.Nat.{leading_top, and_le_l}
use Rattle.std.specs.Int.Count.{count_trailing_zeros, count_leading_zeros, trailing_of_zero, leading_of_zero}
use Rattle.std.proofs.Math.ListN.{get_or-eq_default}
use Rattle.group_table.specs.Lanes.{IsMaskOf, IsMaskAt}

tells : (b : Bool) (P : Type 0) → (b ≡ true → P) → (P → b ≡ true) → (◌≡◌ {A = ℕ} (cond b 1 0) 1) ↔ P
tells true P f g = (λ h. f refl, λ h. refl)
tells false P f g = (λ h. absurd (omega arith), λ h. ap (λ b. cond b 1 0) (g h))

pub mask_is : (t : ℕ → Bool) (P : ℕ → Type 0) (bytes : List ℕ) → length bytes ≡ 16
    → ((byte : ℕ) → t byte ≡ true → P byte) → ((byte : ℕ) → P byte → t byte ≡ true)
    → IsMaskOf P bytes (mask_l (map t bytes))
mask_is t P bytes long sound whole lane =
    let e : bit_at (mask_l (map t bytes)) lane ≡ cond (get_or (map t bytes) lane false) 1 0 =
    bit_mask_l (map t bytes) lane in
    elim (cases_lt lane 16) [
      | inl inside ↦
          let same : get_or (map t bytes) lane false ≡ t (get_or bytes lane 0) =
          get_or-map t bytes lane 0 false (omega arith) in
          let both = tells (t (get_or bytes lane 0)) (P (get_or bytes lane 0)) (sound _) (whole _) in (
            λ h. (inside, both.0 (sym (ap (λ b. cond b 1 0) same) ∙ sym e ∙ h)),
            λ h. e ∙ ap (λ b. cond b 1 0) same
                ∙ both.1 h.1,
          )
      | inr outside ↦
          let none : get_or (map t bytes) lane false ≡ false =
          get_or-eq_default (map t bytes) false (omega (arith, length-map bytes t)) in (
            λ h. absurd (let z : ◌≡◌ {A = ℕ} 0 1 = sym (ap (λ b. cond b 1 0) none) ∙ sym e ∙ h in omega arith),
            λ h.
                absurd (omega (arith, h.0)),
          )
    ]

pub right_mask : (t : ℕ → ℕ → Bool) (bytes : List ℕ) (y : ℕ) → length bytes ≡ 16
    → mask_l (map (top 7) (zip2 (λ a b. cond (t a b) 255 0) bytes (replicate 16 y))) % 2 ^ 64
    ≡ mask_l (map (λ x. t x y) bytes)
right_mask t bytes y long =
    ap (λ ms. mask_l ms % 2 ^ 64) (tops_compared w8 t bytes (replicate 16 y) ∙ zip2_splat t bytes 16 y long)
    ∙ mask_l-mod (map (λ x. t x y) bytes) 64 (omega (arith, length-map bytes (λ x. t x y)))

pub left_mask : (t : ℕ → ℕ → Bool) (bytes : List ℕ) (y : ℕ) → length bytes ≡ 16
    → mask_l (map (top 7) (zip2 (λ a b. cond (t a b) 255 0) (replicate 16 y) bytes)) % 2 ^ 64
    ≡ mask_l (map (λ x. t y x) bytes)
left_mask t bytes y long =
    ap (λ ms. mask_l ms % 2 ^ 64) (tops_compared w8 t (replicate 16 y) bytes ∙ zip2_splat_left t y 16 bytes long)
    ∙ mask_l-mod (map (λ x. t y x) bytes) 64 (omega (arith, length-map bytes (λ x. t y x)))

pub mask_fits : (t : ℕ → Bool) (bytes : List ℕ) → length bytes ≡ 16 → mask_l (map t bytes) < 65536
mask_fits t bytes long = subst (λ n. mask_l (map t bytes) < 2 ^ n) (length-map bytes t ∙ long) (mask_l-lt (map t bytes))

pub none_below : (mask low lane : ℕ) → ((i : ℕ) → i < low → bit_at mask i ≡ 0) → bit_at mask lane ≡ 1 → low ≤ lane
none_below mask low lane zeros set =
    elim (cases_lt lane low) [
      | inl below ↦ absurd (let z : ◌≡◌ {A = ℕ} 0 1 = sym (zeros lane below) ∙ set in omega arith)
      | inr from ↦ from
    ]

clear_at : (n t : ℕ) → 0 < n → bit_at n t ≡ 1 → ((i : ℕ) → i < t → bit_at n i ≡ 0) → bit_at (n - 1) t ≡ 0
clear_at n zero some set zeros = omega (arith, bit_at_lowest n, bit_at_lowest (n - 1))
clear_at n (suc t) some set zeros =
    let even : n % 2 ≡ 0 = sym (bit_at_lowest n) ∙ zeros 0 (omega arith) in
    let half : (n - 1) / 2 ≡ n / 2 - 1 = omega arith in
    bit_at-suc (n - 1) t ∙ ap (λ x. bit_at x t) half
    ∙ clear_at (n / 2) t (omega arith) (sym (bit_at-suc n t) ∙ set)
    (λ i l. sym (bit_at-suc n i) ∙ zeros (suc i) (omega arith))

same_above : (n t i : ℕ) → 0 < n → bit_at n t ≡ 1 → ((j : ℕ) → j < t → bit_at n j ≡ 0) → t < i
    → bit_at (n - 1) i ≡ bit_at n i
same_above n t zero some set zeros l = absurd (omega arith)
same_above n zero (suc i) some set zeros l =
    let odd : n % 2 ≡ 1 = sym (bit_at_lowest n) ∙ set in
    let half : (n - 1) / 2 ≡ n / 2 = omega arith in
    bit_at-suc (n - 1) i ∙ ap (λ x. bit_at x i) half ∙ sym (bit_at-suc n i)
same_above n (suc t) (suc i) some set zeros l =
    let even : n % 2 ≡ 0 = sym (bit_at_lowest n) ∙ zeros 0 (omega arith) in
    let half : (n - 1) / 2 ≡ n / 2 - 1 = omega arith in
    bit_at-suc (n - 1) i ∙ ap (λ x. bit_at x i) half
    ∙ same_above (n / 2) t i (omega arith) (sym (bit_at-suc n t) ∙ set)
    (λ j k. sym (bit_at-suc n j) ∙ zeros (suc j) (omega arith)) (omega arith)
    ∙ sym (bit_at-suc n i)

set_below : (n t i : ℕ) → 0 < n → bit_at n t ≡ 1 → ((j : ℕ) → j < t → bit_at n j ≡ 0) → i < t → bit_at (n - 1) i ≡ 1
set_below n zero i some set zeros l = absurd (omega arith)
set_below n (suc t) zero some set zeros l =
    let even : n % 2 ≡ 0 = sym (bit_at_lowest n) ∙ zeros 0 (omega arith) in
    bit_at_lowest (n - 1) ∙ omega arith
set_below n (suc t) (suc i) some set zeros l =
    let even : n % 2 ≡ 0 = sym (bit_at_lowest n) ∙ zeros 0 (omega arith) in
    let half : (n - 1) / 2 ≡ n / 2 - 1 = omega arith in
    bit_at-suc (n - 1) i ∙ ap (λ x. bit_at x i) half
    ∙ set_below (n / 2) t i (omega arith) (sym (bit_at-suc n t) ∙ set)
    (λ j k. sym (bit_at-suc n j) ∙ zeros (suc j) (omega arith)) (omega arith)

low_ones : (n t : ℕ) → 0 < n → n < 4294967296 → t < 32 → bit_at n t ≡ 1 → ((i : ℕ) → i < t → bit_at n i ≡ 0)
    → bit_and (n - 1) (4294967295 - n) ≡ 2 ^ t - 1
low_ones n t some fits within set zeros =
    same_from_bits_below 32 _ _ (omega (arith, and_le_l (n - 1) (4294967295 - n)))
    (omega (arith, pow_mono {i = t} {j = 32} (omega arith)))
    (λ i p.
    let both = bit_at_and (n - 1) (4294967295 - n) i in
    let turned : bit_at (4294967295 - n) i ≡ 1 - bit_at n i = bit_at_not w32 n i fits p in
    elim (dec_lt i t) [
      | yes q ↦ omega (arith, both, turned, zeros i q, set_below n t i some set zeros q, bit_at_ones t i q)
      | no q ↦ elim (dec_lt t i) [
        | yes r ↦ omega (
          arith,
          both,
          turned,
          same_above n t i some set zeros r,
          bit_at_ones_above t i (omega arith),
          bit_at-lt n i,
        )
        | no r ↦
            let here : t ≡ i = omega arith in
            omega (arith, both, turned, sym (ap (bit_at n) here) ∙ set, bit_at_ones_above t i (omega arith))
      ]
    ])

pub lowest_cleared : (n t lane : ℕ) → 0 < n → bit_at n t ≡ 1 → ((i : ℕ) → i < t → bit_at n i ≡ 0)
    → (bit_at (bit_and n (n - 1)) lane ≡ 1) ↔ ((bit_at n lane ≡ 1) × (lane ≢ t))
lowest_cleared n t lane some set zeros =
    let both = bit_at_and n (n - 1) lane in (
      λ h. (
        omega (arith, both, bit_at-lt n lane, bit_at-lt (n - 1) lane),
        λ e. absurd
            (omega (arith, both, ap (bit_at (n - 1)) e ∙ clear_at n t some set zeros)),
      ),
      λ h.
          let above : t < lane = omega (arith, none_below n t lane zeros h.0, λ (e : t ≡ lane). h.1 (sym e)) in
          omega (arith, both, same_above n t lane some set zeros above),
    )

pub none_of_zero : (mask lane : ℕ) → mask ≡ 0 → bit_at mask lane ≡ 1 → ⊥
none_of_zero mask lane none set = let z : ◌≡◌ {A = ℕ} 0 1 =
    sym (ap (λ m. bit_at m lane) none ∙ bit_at-zero lane) ∙ set in omega arith

pub some_lane : (mask : ℕ) → mask < 65536 → mask ≢ 0 → (lane : ℕ) × (lane < 16) × (bit_at mask lane ≡ 1)
some_lane mask fits some = let h = bit_at-trailing_zeros w16 mask (omega (arith, some)) fits in (_, h.0, h.1)

module _ (mask : ℕ) (fits : mask < 65536) where
  pub none_in_lanes_below : (lane : ℕ) → lane < count_trailing_zeros 16 mask → bit_at mask lane ≡ 1 → ⊥
  none_in_lanes_below lane p set = elim (dec_lt 0 mask) [
    | yes q ↦ let z : ◌≡◌ {A = ℕ} 0 1 = sym ((bit_at-trailing_zeros w16 mask q fits).2 lane p) ∙ set in omega arith
    | no q ↦ none_of_zero mask lane (omega arith) set
  ]

  pub lanes_below_end : count_trailing_zeros 16 mask < 16 → bit_at mask (count_trailing_zeros 16 mask) ≡ 1
  lanes_below_end p = elim (dec_lt 0 mask) [
    | yes q ↦ (bit_at-trailing_zeros w16 mask q fits).1
    | no q ↦ let z : mask ≡ 0 = omega arith in
        absurd (omega (arith, p, ap (count_trailing_zeros 16) z ∙ trailing_of_zero 16))
  ]

  pub none_in_lanes_above : (lane : ℕ) → lane < 16 → 16 ≤ lane + count_leading_zeros 16 mask → bit_at mask lane ≡ 1
      → ⊥
  none_in_lanes_above lane _ p set = elim (dec_lt 0 mask) [
    | yes q ↦
        let t = leading_top 16 mask q fits in
        let z : ◌≡◌ {A = ℕ} 0 1 = sym (bit_at_above mask (suc t.0) lane t.3 (omega (arith, t.1))) ∙ set in omega arith
    | no q ↦ none_of_zero mask lane (omega arith) set
  ]

  pub lanes_above_end : count_leading_zeros 16 mask < 16 → bit_at mask (15 - count_leading_zeros 16 mask) ≡ 1
  lanes_above_end p = elim (dec_lt 0 mask) [
    | yes q ↦
        let t = leading_top 16 mask q fits in
        let at : 15 - count_leading_zeros 16 mask ≡ t.0 = omega (arith, t.1) in
        let rest : 1 * 2 ^ t.0 + (mask - 2 ^ t.0) ≡ mask = omega (arith, t.2) in
        let less : mask - 2 ^ t.0 < 2 ^ t.0 = omega (arith, t.2, t.3, pow-suc 2 t.0) in
        let low : t.0 - t.0 ≡ 0 = omega arith in
        ap (bit_at mask) at ∙ ap (λ m. bit_at m t.0) (sym rest)
        ∙ bit_at_cat_high 1 t.0 (mask - 2 ^ t.0) t.0 less (omega arith) ∙ ap (bit_at 1) low
    | no q ↦ let z : mask ≡ 0 = omega arith in
        absurd (omega (arith, p, ap (count_leading_zeros 16) z ∙ leading_of_zero 16))
  ]

pub lanes_under : (mask : ℕ) → mask < 65536 → mask ≢ 0
    → bit_and ((mask + 4294967295) % 4294967296) (4294967295 - mask) ≡ 2 ^ count_trailing_zeros 16 mask - 1
lanes_under mask fits some =
    let q : 0 < mask = omega (arith, some) in
    let h = bit_at-trailing_zeros w16 mask q fits in
    let less : (mask + 4294967295) % 4294967296 ≡ mask - 1 = omega arith in
    ap (λ n. bit_and n (4294967295 - mask)) less
    ∙ low_ones mask (count_trailing_zeros 16 mask) q (omega arith) (omega (arith, h.0)) h.1 h.2

pub lanes_under_none : (mask : ℕ) → mask ≡ 0
    → bit_and ((mask + 4294967295) % 4294967296) (4294967295 - mask) ≡ 2 ^ 32 - 1
lanes_under_none mask none = ap (λ n. bit_and ((n + 4294967295) % 4294967296) (4294967295 - n)) none

pub lanes_under_mask : (low mask under : ℕ) → mask < 65536 → (low ≢ 0 → under ≡ 2 ^ count_trailing_zeros 16 low - 1)
    → (low ≡ 0 → under ≡ 2 ^ 32 - 1) → nat_lt under mask ≡ nat_lt (2 ^ count_trailing_zeros 16 low - 1) mask
lanes_under_mask low mask under fits some none = elim (dec_lt 0 low) [
  | yes q ↦ ap (λ n. nat_lt n mask) (some (omega (arith, q)))
  | no q ↦
      let empty : low ≡ 0 = omega arith in
      let all : count_trailing_zeros 16 low ≡ 16 = ap (count_trailing_zeros 16) empty ∙ trailing_of_zero 16 in
      le-ltb under mask (omega (arith, none empty))
      ∙ sym (le-ltb (2 ^ count_trailing_zeros 16 low - 1) mask
      (omega (arith, ap (λ n. 2 ^ n) all)))
]

pub masks_meet : (mask f : ℕ) → mask < 65536 → nat_lt (2 ^ f - 1) mask ≡ nat_lt (count_leading_zeros 16 mask + f) 16
masks_meet mask f fits = elim (dec_lt 0 mask) [
  | yes q ↦
      let t = leading_top 16 mask q fits in
      elim (dec_lt t.0 f) [
        | yes r ↦
            let more = pow_mono {i = suc t.0} {j = f} (omega arith) in
            le-ltb (2 ^ f - 1) mask (omega (arith, more, t.3))
            ∙ sym (le-ltb (count_leading_zeros 16 mask + f) 16 (omega (arith, t.1)))
        | no r ↦
            let less = pow_mono {i = f} {j = t.0} (omega arith) in
            lt-ltb (2 ^ f - 1) mask (omega (arith, less, t.2, pow_pos f))
            ∙ sym (lt-ltb (count_leading_zeros 16 mask + f) 16 (omega (arith, t.1)))
      ]
  | no q ↦
      let none : mask ≡ 0 = omega arith in
      let all : count_leading_zeros 16 mask ≡ 16 = ap (count_leading_zeros 16) none ∙ leading_of_zero 16 in
      le-ltb (2 ^ f - 1) mask (omega arith) ∙ sym (le-ltb (count_leading_zeros 16 mask + f) 16 (omega (arith, all)))
]

pub mask_at : (P : ℕ → Type 0) (group bytes : List ℕ) (start mask : ℕ)
    → ((lane : ℕ) → lane < 16 → get_or group lane 0 ≡ get_or bytes (start + lane) 0)
    → IsMaskOf P group mask → IsMaskAt P bytes start mask
mask_at P group bytes start mask same h lane = (
  λ set. let w = (h lane).0 set in (w.0, subst P (same lane w.0) w.1),
  λ w. (h lane).1 (w.0, subst P (sym (same lane w.0)) w.1),
)

pub mask_from_start : (P : ℕ → Type 0) (group bytes : List ℕ) (mask : ℕ)
    → ((lane : ℕ) → lane < 16 → get_or group lane 0 ≡ get_or bytes (0 + lane) 0) → IsMaskOf P group mask
    → IsMaskOf P bytes mask
mask_from_start P group bytes mask same h lane =
    let e : 0 + lane ≡ lane = omega arith in
    let here : lane < 16 → get_or group lane 0 ≡ get_or bytes lane 0 =
    λ p. same lane p ∙ ap (λ k. get_or bytes k 0) e in (
      λ set. let w = (h lane).0 set in (w.0, subst P (here w.0) w.1),
      λ w. (h lane).1 (w.0, subst P (sym (here w.0)) w.1),
    )
