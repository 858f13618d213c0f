-- A search visits the buckets group by group, and each bucket exactly once.
use Rattle.std.proofs.Common.{◌≡◌, ℕ, suc, ◌+◌, ◌-◌, ◌*◌, ◌/◌, ◌%◌, ◌^◌, ◌<◌, ◌≤◌, min, refl, ap, sym, ◌∙◌, subst}
use Rattle.std.proofs.Common.{arith, pow-suc}
use Rattle.std.proofs.Math.Nat.{mod-add-mod, add-mul-mod_self_left, mod-eq_of_lt, mod-lt, div-add-mod}
use Rattle.std.proofs.lemmas.Nat.{pow-add, div-add-mod'}
use native.Mathlib.Decide.{dec_lt}
use Rattle.group_table.specs.Sizes.{IsPowerFromFour}
use Rattle.group_table.specs.Probe.{probed}
use Rattle.group_table.specs.declared.probe.Probe.{Probe}
use Rattle.group_table.specs.Group.{IsProbe, passed_by}
use Rattle.group_table.proofs.Circle.{distance, mod_cancel}
use Rattle.group_table.proofs.Triangle.{IsTriangle, triangle_meets, triangles_apart, product_even}

pub probed-at : (n hash s g lane : ℕ) → s ≡ 16 * g + lane → lane < 16
    → probed n hash s ≡ (hash + 8 * g * (g + 1) + lane) % n
probed-at n hash s g lane e p =
    let group : s / 16 ≡ g = omega arith in
    let rest : s % 16 ≡ lane = omega arith in
    rw (group, rest)

pub probed-lt : (n hash s : ℕ) → 0 < n → probed n hash s < n
probed-lt n hash s pos = mod-lt _ pos

pub probe_within : (n hash : ℕ) (probe : Probe) → IsProbe n hash probe → 0 < n → probe.start < n
probe_within n hash probe at pos = rw at.start (probed-lt n hash (passed_by probe) pos)

pub probed-first_group : (n hash b steps : ℕ) → b < n → steps < 16 → steps ≡ (b + (n - hash % n)) % n
    → probed n hash steps ≡ b
probed-first_group n hash b steps p q e =
    let pos : 0 < n = omega arith in
    let below = mod-lt hash pos in
    let whole = div-add-mod hash n in
    let at : probed n hash steps ≡ (hash + 8 * 0 * (0 + 1) + steps) % n =
    probed-at n hash steps 0 steps (omega arith) q in
    let turned : hash + 8 * 0 * (0 + 1) + steps ≡ steps + hash = omega arith in
    let round : b + (n - hash % n) + hash ≡ b + n * (hash / n + 1) = omega (arith, below, whole) in
    at ∙ ap (λ k. k % n) turned ∙ ap (λ k. (k + hash) % n) e ∙ mod-add-mod (b + (n - hash % n)) n hash
    ∙ ap (λ k. k % n) round ∙ add-mul-mod_self_left b n (hash / n + 1) ∙ mod-eq_of_lt p

pub probed-near : (n hash b step : ℕ) → 0 < n → step < 16 → probed n hash step ≡ b → (b + (n - hash % n)) % n < 16
probed-near n hash b step pos p e =
    let below = mod-lt hash pos in
    let whole = div-add-mod hash n in
    let at : probed n hash step ≡ (hash + 8 * 0 * (0 + 1) + step) % n = probed-at n hash step 0 step (omega arith) p in
    let round : hash + 8 * 0 * (0 + 1) + step + (n - hash % n) ≡ step + n * (hash / n + 1) =
    omega (arith, below, whole) in
    let is : (b + (n - hash % n)) % n ≡ step % n =
    ap (λ k. (k + (n - hash % n)) % n) (sym e ∙ at)
    ∙ mod-add-mod (hash + 8 * 0 * (0 + 1) + step) n (n - hash % n) ∙ ap (λ k. k % n) round
    ∙ add-mul-mod_self_left step n (hash / n + 1) in
    omega (arith, is, p, div-add-mod step n)

pub probed-lane : (n hash s lane : ℕ) → s % 16 ≡ 0 → lane < 16 → probed n hash (s + lane) ≡ (probed n hash s + lane) % n
probed-lane n hash s lane e p =
    let first : probed n hash s ≡ (hash + 8 * (s / 16) * (s / 16 + 1) + 0) % n =
    probed-at n hash s (s / 16) 0 (omega arith) (omega arith) in
    let add : hash + 8 * (s / 16) * (s / 16 + 1) + 0 + lane ≡ hash + 8 * (s / 16) * (s / 16 + 1) + lane = omega arith in
    probed-at n hash (s + lane) (s / 16) lane (omega arith) p ∙ ap (λ m. m % n) (sym add)
    ∙ sym (mod-add-mod (hash + 8 * (s / 16) * (s / 16 + 1) + 0) n lane) ∙ ap (λ m. (m + lane) % n) (sym first)

pub probed-next_group : (n hash s : ℕ) → s % 16 ≡ 0 → (probed n hash s + (s + 16)) % n ≡ probed n hash (s + 16)
probed-next_group n hash s e =
    let g = s / 16 in
    let whole : s ≡ 16 * g + 0 = omega arith in
    let first : probed n hash s ≡ (hash + 8 * g * (g + 1) + 0) % n = probed-at n hash s g 0 whole (omega arith) in
    let on : hash + 8 * g * (g + 1) + 0 + (s + 16) ≡ hash + 8 * (g + 1) * (g + 1 + 1) + 0 = omega (arith, whole) in
    ap (λ m. (m + (s + 16)) % n) first ∙ mod-add-mod (hash + 8 * g * (g + 1) + 0) n (s + 16) ∙ ap (λ m. m % n) on
    ∙ sym (probed-at n hash (s + 16) (g + 1) 0 (omega (arith, whole)) (omega arith))

probed-small : (n hash s : ℕ) → s < 16 → probed n hash s ≡ (hash + s) % n
probed-small n hash s p = let e : hash + 8 * 0 * (0 + 1) + s ≡ hash + s = omega arith in
    probed-at n hash s 0 s (omega arith) p ∙ ap (λ m. m % n) e

pub power_cases : (n : ℕ) → (power : IsPowerFromFour n) → 16 ≤ n → (m : ℕ) × (n ≡ 16 * 2 ^ m)
power_cases n power p =
    elim (dec_lt 1 power.0) [
      | yes r ↦
          let e : power.0 ≡ 2 + (power.0 - 2) = omega arith in
          let d : 2 ^ power.0 ≡ 2 ^ 2 * 2 ^ (power.0 - 2) = ap (λ j. 2 ^ j) e ∙ pow-add 2 2 (power.0 - 2) in
          (power.0 - 2, omega (arith, power.1, d))
      | no r ↦ absurd (small power.0 power.1 (omega arith))
    ]
  where
    small : (k : ℕ) → n ≡ 4 * 2 ^ k → k ≤ 1 → ⊥
    small k e q = elim (dec_lt 0 k) [
      | yes r ↦ let f : k ≡ 1 = omega arith in let g : n ≡ 4 * 2 ^ 1 = e ∙ ap (λ j. 4 * 2 ^ j) f in omega arith
      | no r ↦ let f : k ≡ 0 = omega arith in let g : n ≡ 4 * 2 ^ 0 = e ∙ ap (λ j. 4 * 2 ^ j) f in omega arith
    ]

abbrev pub IsMet : ℕ → ℕ → ℕ → Type 0
IsMet n hash b = (s : ℕ) × (s < n) × (probed n hash s ≡ b)

met_in_small : (n hash b : ℕ) → 0 < n → n ≤ 16 → b < n → IsMet n hash b
met_in_small n hash b p q r =
    let d = distance n (hash % n) b (mod-lt hash p) r in
    (d.0, d.1, probed-small n hash d.0 (omega (arith, d.1)) ∙ sym (mod-add-mod hash n d.0) ∙ d.2)

way : (hash t lane q size r : ℕ) → IsTriangle size t q r
    → hash + 8 * t * (t + 1) + lane ≡ hash + (q * 16 + lane) + 16 * size * r
way hash t lane q size r h = let e = h.is in omega arith

met_at : (size hash b t lane q r : ℕ) → lane < 16 → t < size → IsTriangle size t q r
    → (hash % (16 * size) + (q * 16 + lane)) % (16 * size) ≡ b → IsMet (16 * size) hash b
met_at size hash b t lane q r p below h e = (
  16 * t + lane,
  omega arith,
  probed-at (16 * size) hash (16 * t + lane) t lane refl p ∙ ap (λ k. k % (16 * size)) (way hash t lane q size r h)
      ∙ add-mul-mod_self_left (hash + (q * 16 + lane)) (16 * size) r
      ∙ sym (mod-add-mod hash (16 * size) (q * 16 + lane)) ∙ e,
)

met_by : (m hash b d : ℕ) → d < 16 * 2 ^ m → (hash % (16 * 2 ^ m) + d) % (16 * 2 ^ m) ≡ b → IsMet (16 * 2 ^ m) hash b
met_by m hash b d p e =
    let split : d / 16 * 16 + d % 16 ≡ d = div-add-mod' d 16 in
    let w = triangle_meets m (d / 16) (omega arith) in
    met_at (2 ^ m) hash b w.0 (d % 16) (d / 16) w.1 (omega arith) w.2 w.3
    (ap (λ k. (hash % (16 * 2 ^ m) + k) % (16 * 2 ^ m)) split ∙ e)

met_in_large : (m n hash b : ℕ) → n ≡ 16 * 2 ^ m → b < n → IsMet n hash b
met_in_large m n hash b e p =
    let d = distance n (hash % n) b (mod-lt hash (omega arith)) p in
    subst (λ k. IsMet k hash b) (sym e)
    (met_by m hash b d.0 (omega (arith, d.1, e)) (subst (λ k. (hash % k + d.0) % k ≡ b) e d.2))

pub probed-meets : (n hash b : ℕ) → IsPowerFromFour n → b < n → IsMet n hash b
probed-meets n hash b power p =
    elim (dec_lt n 16) [
      | yes q ↦ met_in_small n hash b (omega arith) (omega arith) p
      | no q ↦ let w = power_cases n power (omega arith) in met_in_large w.0 n hash b w.1 p
    ]

apart_in_large : (m hash s t : ℕ) → s < 16 * 2 ^ m → t < 16 * 2 ^ m
    → probed (16 * 2 ^ m) hash s ≡ probed (16 * 2 ^ m) hash t → s ≡ t
apart_in_large m hash s t p q e =
    let n = 16 * 2 ^ m in
    let pos : 0 < n = omega arith in
    let g = s / 16 in
    let h = t / 16 in
    let way_s : hash + 8 * g * (g + 1) + s % 16 ≡ hash + (8 * g * (g + 1) + s % 16) = omega arith in
    let way_t : hash + 8 * h * (h + 1) + t % 16 ≡ hash + (8 * h * (h + 1) + t % 16) = omega arith in
    let same : (8 * g * (g + 1) + s % 16) % n ≡ (8 * h * (h + 1) + t % 16) % n =
    mod_cancel n hash _ _ pos (ap (λ k. k % n) (sym way_s) ∙ e ∙ ap (λ k. k % n) way_t) in
    let x = product_even g in
    let y = product_even h in
    let first = div-add-mod (8 * g * (g + 1) + s % 16) n in
    let second = div-add-mod (8 * h * (h + 1) + t % 16) n in
    join m (2 ^ m) g (s % 16) h (t % 16) s t x.0 y.0 ((8 * g * (g + 1) + s % 16) / n)
    ((8 * h * (h + 1) + t % 16) / n) refl (omega arith) (omega arith) (omega arith) (omega arith) p q x.1 y.1
    (joined _ _ (sym first) (sym second) same)
  where
    joined : {x y r s : ℕ} (p q : ℕ) → x ≡ p + r → y ≡ q + s → r ≡ s → x + q ≡ y + p
    joined p q e f g = omega arith

    join : (m size g a h b s t x y u v : ℕ) → size ≡ 2 ^ m → a < 16 → b < 16 → s ≡ 16 * g + a → t ≡ 16 * h + b
        → s < 16 * size → t < 16 * size → g * (g + 1) ≡ 2 * x
        → h * (h + 1) ≡ 2 * y → (8 * g * (g + 1) + a) + 16 * size * v ≡ (8 * h * (h + 1) + b) + 16 * size * u → s ≡ t
    join m size g a h b s t x y u v z la lb is_s is_t p q ex ey e =
        let f : 16 * x + a + 16 * (size * v) ≡ 16 * y + b + 16 * (size * u) = omega (arith, ex, ey) in
        let lanes : a ≡ b = omega arith in
        let two : 2 ^ suc m ≡ 2 * 2 ^ m = pow-suc 2 m ∙ omega arith in
        let k : g * (g + 1) + 2 * size * v ≡ h * (h + 1) + 2 * size * u = omega (arith, ex, ey, f, lanes) in
        let twice : 2 * size ≡ 2 ^ suc m = ap (λ c. 2 * c) z ∙ sym two in
        let l : g * (g + 1) + 2 ^ suc m * v ≡ h * (h + 1) + 2 ^ suc m * u =
        subst (λ c. g * (g + 1) + c * v ≡ h * (h + 1) + c * u) twice k in
        let groups = triangles_apart m g h v u (omega arith) (omega arith) l in
        omega (arith, groups, lanes)

apart_in_small : (n hash s t : ℕ) → n ≤ 16 → s < n → t < n → probed n hash s ≡ probed n hash t → s ≡ t
apart_in_small n hash s t l p q e =
    sym (mod-eq_of_lt p) ∙ mod_cancel n hash s t (omega arith)
    (sym (probed-small n hash s (omega arith)) ∙ e ∙ probed-small n hash t (omega arith)) ∙ mod-eq_of_lt q

pub probed-apart : (n hash s t : ℕ) → IsPowerFromFour n → s < n → t < n → probed n hash s ≡ probed n hash t → s ≡ t
probed-apart n hash s t power p q e =
    elim (dec_lt n 16) [
      | yes l ↦ apart_in_small n hash s t (omega arith) p q e
      | no l ↦
          let w = power_cases n power (omega arith) in
          apart_in_large w.0 hash s t (omega (arith, w.1)) (omega (arith, w.1))
          (subst (λ k. probed k hash s ≡ probed k hash t) w.1 e)
    ]

module _ (n hash s : ℕ) (whole : s % 16 ≡ 0) (P : ℕ → Type 0) where
  pub up_to_lane : (lanes : ℕ) → lanes ≤ 16 → ((t : ℕ) → t < s → P (probed n hash t))
      → ((lane : ℕ) → lane < lanes → P ((probed n hash s + lane) % n)) → (t : ℕ) → t < s + lanes → P (probed n hash t)
  up_to_lane lanes small before here t p =
      elim (dec_lt t s) [
        | yes q ↦ before t q
        | no q ↦
            let is : s + (t - s) ≡ t = omega arith in
            subst (λ k. P (probed n hash k)) is
            (subst P (sym (probed-lane n hash s (t - s) whole (omega arith))) (here (t - s) (omega arith)))
      ]

  pub up_to_end : IsPowerFromFour n → n ≤ s + 16 → ((t : ℕ) → t < s + min 16 n → P (probed n hash t)) → (b : ℕ) → b < n
      → P b
  up_to_end power last all b p =
      let met = probed-meets n hash b power p in
      subst P met.2 (all met.0 (omega (arith, met.1)))

pub group_within : (n s : ℕ) → IsPowerFromFour n → s % 16 ≡ 0 → s < n → s + min 16 n ≤ n
group_within n s power whole p =
    elim (dec_lt n 16) [
      | yes q ↦ omega arith
      | no q ↦ let w = power_cases n power (omega arith) in omega (arith, w.1)
    ]
