-- The triangular numbers modulo a power of two: below 2 ^ m each residue is met, and only once.
use Rattle.std.proofs.Common.{◌≡◌, ℕ, zero, suc, ◌+◌, ◌-◌, ◌*◌, ◌^◌, ◌<◌, ◌≤◌, ◌⊎◌, inl, inr, arith, subst, sym, ap}
use Rattle.std.proofs.Common.{◌∙◌}
use Rattle.std.proofs.Math.Nat.{two-pow-succ}
use native.Mathlib.Decide.{dec_lt}

-- the triangular number of t is g + n * q
pub record IsTriangle (n t g q : ℕ) : Type 0 where
  pub is : t * (t + 1) ≡ 2 * (g + n * q)

mirrored : (t v g q : ℕ) → IsTriangle (t + v + 1) t g q → IsTriangle (t + v + 1) (t + v + 1 + v) g (q + 2 * v + 1)
mirrored t v g q h = let e = h.is in record { is = omega arith }

mirror : (n t g q : ℕ) → t < n → IsTriangle n t g q → (v : ℕ) × (n + v < n + n) × IsTriangle n (n + v) g (q + 2 * v + 1)
mirror n t g q p h =
    let v = n - t - 1 in
    let e : t + v + 1 ≡ n = omega arith in (
      v,
      omega arith,
      subst (λ k. IsTriangle k (k + v) g (q + 2 * v + 1)) e
          (mirrored t v g q (subst (λ k. IsTriangle k t g q) (sym e) h)),
    )

even_half : (n t g q r : ℕ) → q ≡ 2 * r → IsTriangle n t g q → IsTriangle (n + n) t g r
even_half n t g q r e h = let d : t * (t + 1) ≡ 2 * (g + n * (2 * r)) = h.is ∙ ap (λ k. 2 * (g + n * k)) e in
    record { is = omega arith }

odd_half : (n t g q r : ℕ) → q ≡ 2 * r + 1 → IsTriangle n t g q → IsTriangle (n + n) t (g + n) r
odd_half n t g q r e h = let d : t * (t + 1) ≡ 2 * (g + n * (2 * r + 1)) = h.is ∙ ap (λ k. 2 * (g + n * k)) e in
    record { is = omega arith }

parity : (q : ℕ) → ((r : ℕ) × (q ≡ 2 * r)) ⊎ ((r : ℕ) × (q ≡ 2 * r + 1))
parity zero = inl (0, omega arith)
parity (suc q) = elim (parity q) [ inl w ↦ inr (w.0, omega (arith, w.1)) | inr w ↦ inl (w.0 + 1, omega (arith, w.1)) ]

abbrev Meets : ℕ → ℕ → Type 0
Meets n g = (t : ℕ) × (q : ℕ) × (t < n) × IsTriangle n t g q

low : (n g : ℕ) → Meets n g → Meets (n + n) g
low n g w =
    elim (parity w.1) [
      | inl r ↦ (w.0, r.0, omega (arith, w.2), even_half n w.0 g w.1 r.0 r.1 w.3)
      | inr r ↦
          let m = mirror n w.0 g w.1 w.2 w.3 in
          (n + m.0, r.0 + 1 + m.0, m.1, even_half n (n + m.0) g _ (r.0 + 1 + m.0) (omega (arith, r.1)) m.2)
    ]

high : (n g : ℕ) → Meets n g → Meets (n + n) (g + n)
high n g w =
    elim (parity w.1) [
      | inl r ↦
          let m = mirror n w.0 g w.1 w.2 w.3 in
          (n + m.0, r.0 + m.0, m.1, odd_half n (n + m.0) g _ (r.0 + m.0) (omega (arith, r.1)) m.2)
      | inr r ↦ (w.0, r.0, omega (arith, w.2), odd_half n w.0 g w.1 r.0 r.1 w.3)
    ]

pub triangle_meets : (m g : ℕ) → g < 2 ^ m → Meets (2 ^ m) g
triangle_meets zero g p = (0, 0, omega arith, record { is = omega arith })
triangle_meets (suc m) g p =
    let n = 2 ^ m in
    let e : 2 ^ suc m ≡ n + n = two-pow-succ m in
    subst (λ k. Meets k g) (sym e) (elim (dec_lt g n) [
      | yes q ↦ low n g (triangle_meets m g q)
      | no q ↦ let d : g - n + n ≡ g = omega arith in
          subst (λ k. Meets (n + n) k) d (high n (g - n) (triangle_meets m (g - n) (omega arith)))
    ])

odd_divides : (k a b q : ℕ) → (2 * a + 1) * b ≡ 2 ^ k * q → (r : ℕ) × (b ≡ 2 ^ k * r)
odd_divides zero a b q e = (b, omega arith)
odd_divides (suc k) a b q e =
    let f : (2 * a + 1) * b ≡ 2 * (2 ^ k * q) = e ∙ ap (λ z. z * q) (two-pow-succ k) ∙ omega arith in
    elim (parity b) [
      | inl c ↦
          let half : (2 * a + 1) * c.0 ≡ 2 ^ k * q = halved (2 ^ k * q) a b c.0 c.1 f in
          let w = odd_divides k a c.0 q half in
          (w.0, c.1 ∙ ap (λ z. 2 * z) w.1 ∙ sym (ap (λ z. z * w.0) (two-pow-succ k) ∙ omega arith))
      | inr c ↦ absurd (odd_product (2 ^ k * q) a b c.0 c.1 f)
    ]
  where
    halved : (z a b c : ℕ) → b ≡ 2 * c → (2 * a + 1) * b ≡ 2 * z → (2 * a + 1) * c ≡ z
    halved z a b c g h = let i : (2 * a + 1) * (2 * c) ≡ 2 * z = ap (λ x. (2 * a + 1) * x) (sym g) ∙ h in omega arith

    odd_product : (z a b c : ℕ) → b ≡ 2 * c + 1 → (2 * a + 1) * b ≡ 2 * z → ⊥
    odd_product z a b c g h = let i : (2 * a + 1) * (2 * c + 1) ≡ 2 * z = ap (λ x. (2 * a + 1) * x) (sym g) ∙ h in
        omega arith

no_multiple : (n b r : ℕ) → 0 < b → b < n → b ≡ n * r → ⊥
no_multiple n b zero p q e = omega arith
no_multiple n b (suc r) p q e = let f : b ≡ n + n * r = e ∙ omega arith in omega arith

apart_by : (m t d q : ℕ) → 0 < d → t + d < 2 ^ m → d * (2 * t + d + 1) ≡ 2 ^ suc m * q → ⊥
apart_by m t d q p l e =
    let two : 2 ^ suc m ≡ 2 ^ m + 2 ^ m = two-pow-succ m in
    elim (parity d) [
      | inl c ↦
          let odd : 2 * t + d + 1 ≡ 2 * (t + c.0) + 1 = omega (arith, c.1) in
          let f : (2 * (t + c.0) + 1) * d ≡ 2 ^ suc m * q = ap (λ z. z * d) (sym odd) ∙ omega (arith, e) in
          let w = odd_divides (suc m) (t + c.0) d q f in
          no_multiple (2 ^ suc m) d w.0 p (omega (arith, two)) w.1
      | inr c ↦
          let f : (2 * c.0 + 1) * (2 * t + d + 1) ≡ 2 ^ suc m * q = ap (λ z. z * (2 * t + d + 1)) (sym c.1) ∙ e in
          let w = odd_divides (suc m) c.0 (2 * t + d + 1) q f in
          no_multiple (2 ^ suc m) (2 * t + d + 1) w.0 (omega arith) (omega (arith, two)) w.1
    ]

ordered_apart : (m t u p q : ℕ) → t < u → u < 2 ^ m → t * (t + 1) + 2 ^ suc m * p ≡ u * (u + 1) + 2 ^ suc m * q → ⊥
ordered_apart m t u p q l b e =
    let d = u - t in
    let is : u ≡ t + d = omega arith in
    let f : t * (t + 1) + 2 ^ suc m * p ≡ (t + d) * (t + d + 1) + 2 ^ suc m * q =
    e ∙ ap (λ z. z * (z + 1) + 2 ^ suc m * q) is in
    let g : 2 ^ suc m * p ≡ d * (2 * t + d + 1) + 2 ^ suc m * q = expand (2 ^ suc m * p) (2 ^ suc m * q) t d f in
    let more : q ≤ p = no_less (2 ^ suc m) p q (d * (2 * t + d + 1)) (pos_product d (2 * t + d) (omega arith)) g in
    apart_by m t d (p - q) (omega arith) (omega arith) (differ (2 ^ suc m) p q (d * (2 * t + d + 1)) more g)
  where
    expand : (x y t d : ℕ) → t * (t + 1) + x ≡ (t + d) * (t + d + 1) + y → x ≡ d * (2 * t + d + 1) + y
    expand x y t d h = omega arith

    pos_product : (d x : ℕ) → 0 < d → 0 < d * (x + 1)
    pos_product d x p = let e : d * (x + 1) ≡ d * x + d = omega arith in omega arith

    more_than : (n p w z : ℕ) → 0 < z → n * p ≡ z + n * (p + w) → ⊥
    more_than n p w z pos h = let i : n * (p + w) ≡ n * p + n * w = omega arith in omega arith

    no_less : (n p q z : ℕ) → 0 < z → n * p ≡ z + n * q → q ≤ p
    no_less n p q z pos h = elim (dec_lt p q) [
      | yes s ↦ absurd
          (more_than n p (q - p) z pos (h ∙ ap (λ k. z + n * k) (let i : q ≡ p + (q - p) = omega arith in i)))
      | no s ↦ omega arith
    ]

    differ : (n p q z : ℕ) → q ≤ p → n * p ≡ z + n * q → z ≡ n * (p - q)
    differ n p q z l h = let i : p ≡ q + (p - q) = omega arith in let j : n * (q + (p - q)) ≡ z + n * q =
        ap (λ k. n * k) (sym i) ∙ h in omega arith

pub triangles_apart : (m t u p q : ℕ) → t < 2 ^ m → u < 2 ^ m
    → t * (t + 1) + 2 ^ suc m * p ≡ u * (u + 1) + 2 ^ suc m * q → t ≡ u
triangles_apart m t u p q b c e =
    elim (dec_lt t u) [
      | yes l ↦ absurd (ordered_apart m t u p q l c e)
      | no l ↦ elim (dec_lt u t) [
        | yes r ↦ absurd (ordered_apart m u t q p r b (sym e))
        | no r ↦ omega arith
      ]
    ]

pub product_even : (t : ℕ) → (u : ℕ) × (t * (t + 1) ≡ 2 * u)
product_even zero = (0, omega arith)
product_even (suc t) = let w = product_even t in (w.0 + t + 1, step t w.0 w.1)
  where
    step : (t u : ℕ) → t * (t + 1) ≡ 2 * u → suc t * (suc t + 1) ≡ 2 * (u + t + 1)
    step t u e = omega arith
