use Rattle.std.proofs.Common.{◌≡◌, ℕ, zero, suc, ◌+◌, ◌*◌, ◌/◌, ◌^◌, ◌<◌, ◌≤◌, ◌⊎◌, Bool, true, false, cond, Option}
use Rattle.std.proofs.Common.{Some, None, refl, sym, ap, ◌∙◌, arith, inl, inr, pow-add}
use native.Mathlib.Decide.{dec_lt}
use Rattle.std.specs.Prelude.{nat_lt, nat_le, ◌==◌}
use Rattle.std.proofs.lemmas.Bool.Decides.{nat_tests}
use Rattle.std.proofs.lemmas.Option.{cond_some}
use Rattle.group_table.specs.Sizes.{full_capacity, least_power, below, buckets_for}
use Rattle.group_table.proofs.PowerLemmas.{first_power_upper, power_gap}
use Rattle.group_table.proofs.SizeLemmas.{full_capacity-large, power_pos}
use Rattle.lru_model.specs.Sizes.{same_table, new_table, table_with, target_from, target}
use Rattle.lru_model.proofs.TableSizes.Growth.{full_capacity-4, full_capacity-at_most, full_capacity-eighths}
use Rattle.lru_model.proofs.TableSizes.Growth.{sizes_of, least_power_shape, buckets_double, table_with_is}

full_capacity-8 : full_capacity 8 ≡ 7
unfolding full_capacity
full_capacity-8 = refl

pub least_power_upper : (n : ℕ) → 0 < n → least_power n < 2 * n
unfolding least_power
least_power_upper n h = first_power_upper 64 n 1 (omega arith)

IsNeed : ℕ → ℕ → Type 0
IsNeed c n = ((c < 4) × (n ≤ 4)) ⊎ ((4 ≤ c) × (c < 8) × (n ≡ 8))
    ⊎ ((8 ≤ c) × (n < 2 * (8 * c / 7)) × ((j : ℕ) × (n ≡ 2 ^ j)))

need_is : (max c n : ℕ) → buckets_for max c ≡ Some n → IsNeed c n
unfolding buckets_for IsNeed
need_is max c n =
    pick (c == 0) (nat_lt c 4) (nat_lt c 8) (nat_lt (8 * c) (2 ^ 64)) (λ e. grind (arith, nat_tests))
    (λ e. grind (arith, nat_tests)) (λ e. grind (arith, nat_tests))
    (λ e. grind (arith, nat_tests)) (λ e. grind (arith, nat_tests))
  where
    pick : (a b d e : Bool) → (a ≡ true → c ≡ 0) → (b ≡ true → c < 4) → (b ≡ false → 4 ≤ c) → (d ≡ true → c < 8)
        → (d ≡ false → 8 ≤ c) →
        cond a (Some 0) (cond b (below max 4)
        (cond d (below max 8) (cond e (below max (least_power (8 * c / 7))) None))) ≡ Some n →
        ((c < 4) × (n ≤ 4)) ⊎ ((4 ≤ c) × (c < 8) × (n ≡ 8))
        ⊎ ((8 ≤ c) × (n < 2 * (8 * c / 7)) × ((j : ℕ) × (n ≡ 2 ^ j)))
    pick true b d e p q r s t h = let z = p refl in let w : n ≡ 0 = grind arith in inl (omega arith, omega (arith, w))
    pick false true d e p q r s t h = let w : 4 ≡ n = (cond_some (nat_lt 4 max) 4 n h).1 in
        inl (q refl, omega (arith, w))
    pick false false true e p q r s t h = inr (inl (r refl, s refl, sym ((cond_some (nat_lt 8 max) 8 n h).1)))
    pick false false false true p q r s t h =
        let w : least_power (8 * c / 7)
        ≡ n = (cond_some (nat_lt (least_power (8 * c / 7)) max) (least_power (8 * c / 7)) n h).1 in
        let shape = least_power_shape (8 * c / 7) in
        let l : 8 ≤ c = t refl in
        let u = least_power_upper (8 * c / 7) (omega arith) in
        inr (inr (l, omega (arith, u, w), (shape.0, sym w ∙ shape.1)))
    pick false false false false p q r s t h = absurd (grind arith)

need_small : (c n : ℕ) → 0 < c → IsNeed c n → full_capacity n < 4 * c
unfolding full_capacity IsNeed
need_small c n p (inl h) = grind (arith, nat_tests, h.0, h.1)
need_small c n p (inr (inl h)) = grind (arith, nat_tests, h.0, h.2)
need_small c n p (inr (inr h)) = grind (arith, nat_tests, h.0, h.1)

double_small_large : (k b c max n : ℕ) → b ≡ 4 * 2 ^ k → 16 ≤ b → b / 8 * 8 ≡ b → full_capacity b / 2 < c
    → IsNeed (full_capacity (2 * b)) n → 2 * b ≤ n → full_capacity n < 4 * c
unfolding full_capacity IsNeed
double_small_large k b c max n size l m f need d = go need
  where
    is : full_capacity (2 * b) ≡ 2 * b / 8 * 7
    is = grind (arith, nat_tests)

    go : IsNeed (full_capacity (2 * b)) n → full_capacity n < 4 * c
    go (inl h) = absurd (omega (arith, is, h.0))
    go (inr (inl h)) = absurd (omega (arith, is, h.1))
    go (inr (inr h)) = finish (dec_lt (2 * b) n)
      where
        power : 2 * b ≡ 2 ^ (k + 3)
        power = omega (arith, pow-add 2 k 3, size)

        finish : Dec (2 * b < n) → full_capacity n < 4 * c
        finish (yes g) = absurd (let gap : 2 * 2 ^ (k + 3) ≤ 2 ^ h.2.0 = power_gap (k + 3) h.2.0
            (omega (arith, power, h.2.1)) in omega (arith, gap, power, h.2.1, h.1, is))
        finish (no g) = let e : n ≡ 2 * b = omega (arith, d) in rw e (grind (arith, nat_tests, f, m))

double_small : (k b c max n : ℕ) → b ≡ 4 * 2 ^ k → full_capacity b / 2 < c → buckets_for max (full_capacity (2 * b))
    ≡ Some n → full_capacity n < 4 * c
unfolding full_capacity IsNeed
double_small k b c max n size f h = go k size (sizes_of k b size)
  where
    go : (k : ℕ) → b ≡ 4 * 2 ^ k → (b ≡ 4) ⊎ ((b ≡ 8) ⊎ (16 ≤ b)) → full_capacity n < 4 * c
    go k size (inl e) = need_four (need_is max (full_capacity (2 * b)) n h)
      where
        need_four : IsNeed (full_capacity (2 * b)) n → full_capacity n < 4 * c
        need_four (inl p) = absurd (grind (arith, nat_tests, p.0))
        need_four (inr (inl p)) = grind (arith, nat_tests, p.2)
        need_four (inr (inr p)) = absurd (grind (arith, nat_tests, p.0))
    go k size (inr (inl e)) = need_eight (need_is max (full_capacity (2 * b)) n h)
      where
        fourteen : full_capacity (2 * b) ≡ 14
        fourteen = rw e refl

        small : (j : ℕ) → n ≡ 2 ^ j → n < 32 → n ≤ 16
        small j s l = finish (dec_lt 16 n)
          where
            finish : Dec (16 < n) → n ≤ 16
            finish (yes g) = let gap : 2 * 2 ^ 4 ≤ 2 ^ j = power_gap 4 j (omega (arith, s)) in omega (arith, gap, s)
            finish (no g) = omega arith

        need_eight : IsNeed (full_capacity (2 * b)) n → full_capacity n < 4 * c
        need_eight (inl p) = absurd (omega (arith, fourteen, p.0))
        need_eight (inr (inl p)) = absurd (omega (arith, fourteen, p.1))
        need_eight (inr (inr p)) = let s = small p.2.0 p.2.1 (omega (arith, p.1, fourteen)) in
            grind (arith, nat_tests, s, e, f)
    go k size (inr (inr l)) = double_small_large k b c max n size l (eighths k size l) f
        (need_is max (full_capacity (2 * b)) n h) (buckets_double k b max n size h)
      where
        eighths : (k : ℕ) → b ≡ 4 * 2 ^ k → 16 ≤ b → b / 8 * 8 ≡ b
        eighths zero s l = absurd (omega arith)
        eighths (suc k) s l = let p : b ≡ 8 * 2 ^ k = omega (arith, s, pow-add 2 k 1) in omega arith

pub target_small : (k max e b c n bytes : ℕ) → b ≡ 4 * 2 ^ k → full_capacity b / 2 < c → target max e b c
    ≡ new_table n bytes → full_capacity n < 4 * c
unfolding target
target_small k max e b c n bytes size f = from (buckets_for max c) refl
  where
    from : (need : Option ℕ) → buckets_for max c ≡ need → target_from max e b c need ≡ new_table n bytes
        → full_capacity n < 4 * c
    from None q h = absurd (grind arith)
    from (Some need) q h = split (nat_lt b need) (nat_le c (full_capacity b / 2)) h
      where
        split : (t u : Bool)
            → cond t (table_with e (Some need))
            (cond u same_table (table_with e (buckets_for max (full_capacity (2 * b))))) ≡ new_table n bytes
            → full_capacity n < 4 * c
        split true u h = let p : Some need ≡ Some n = (table_with_is e n bytes (Some need) h).0 in
            need_small c n (omega arith) (need_is max c n (q ∙ p))
        split false true h = absurd (grind arith)
        split false false h = double_small k b c max n size f (table_with_is e n bytes _ h).0

-- if the table of b buckets is large enough for c pairs, a reservation for c pairs needs at most b buckets
pub fit_needs : (k max b c : ℕ) → b ≡ 4 * 2 ^ k → b < max → 8 * c < 2 ^ 64 → c ≤ full_capacity b → (need : ℕ)
    × (buckets_for max c ≡ Some need) × (need ≤ b)
unfolding buckets_for
fit_needs k max b c size reached short fits =
    pick (c == 0) (nat_lt c 4) (nat_lt c 8) (nat_lt (8 * c) (2 ^ 64)) (λ e. grind (arith, nat_tests))
    (λ e. grind (arith, nat_tests)) (λ e. grind (arith, nat_tests))
  where
    within : (m : ℕ) → m ≤ b → below max m ≡ Some m
    within m h = let l : m < max = omega arith in grind (arith, nat_tests)

    eight : 4 ≤ c → 8 ≤ b
    eight h = go (sizes_of k b size)
      where
        go : (b ≡ 4) ⊎ ((b ≡ 8) ⊎ (16 ≤ b)) → 8 ≤ b
        go (inl e) = absurd (omega (arith, h, fits, ap full_capacity e, full_capacity-4))
        go (inr (inl e)) = omega (arith, e)
        go (inr (inr l)) = omega (arith, l)

    eighths : 8 ≤ c → (8 < b) × (b / 8 * 8 ≡ b)
    eighths h = go k size (sizes_of k b size)
      where
        go : (k : ℕ) → b ≡ 4 * 2 ^ k → (b ≡ 4) ⊎ ((b ≡ 8) ⊎ (16 ≤ b)) → (8 < b) × (b / 8 * 8 ≡ b)
        go k size (inl e) = absurd (omega (arith, h, fits, e, full_capacity-at_most b))
        go k size (inr (inl e)) = absurd (omega (arith, h, fits, ap full_capacity e, full_capacity-8))
        go zero size (inr (inr l)) = absurd (omega (arith, size, l))
        go (suc k) size (inr (inr l)) =
            let p : b ≡ 8 * 2 ^ k = omega (arith, size, pow-add 2 k 1) in (omega (arith, l), omega arith)

    least : (m : ℕ) → 0 < m → m ≤ b → least_power m ≤ b
    least m some few = go (least_power_shape m) (least_power_upper m some)
      where
        power : b ≡ 2 ^ (k + 2)
        power = omega (arith, size, pow-add 2 k 2)

        go : (j : ℕ) × (least_power m ≡ 2 ^ j) → least_power m < 2 * m → least_power m ≤ b
        go (j, shape) upper = elim (dec_lt b (least_power m)) [
          | yes more ↦ absurd
              (let gap : 2 * 2 ^ (k + 2) ≤ 2 ^ j = power_gap (k + 2) j (omega (arith, power, shape, more)) in
              omega (arith, gap, power, shape, upper, few))
          | no few ↦ omega (arith, few)
        ]

    pick : (a d e f : Bool) → (d ≡ false → 4 ≤ c) → (e ≡ false → 8 ≤ c) → (f ≡ false → 2 ^ 64 ≤ 8 * c)
        → (need : ℕ) × (cond a (Some 0)
        (cond d (below max 4) (cond e (below max 8) (cond f (below max (least_power (8 * c / 7))) None)))
        ≡ Some need) × (need ≤ b)
    pick true d e f p q r = (0, refl, omega arith)
    pick false true e f p q r = (4, within 4 (power_pos b (k, size)), power_pos b (k, size))
    pick false false true f p q r = let l = eight (p refl) in (8, within 8 l, l)
    pick false false false true p q r =
        let s = eighths (q refl) in
        let few = least (8 * c / 7) (omega (arith, q refl)) (omega (arith, fits, full_capacity-large b s.0, s.1)) in
        (least_power (8 * c / 7), within (least_power (8 * c / 7)) few, few)
    pick false false false false p q r = absurd (omega (arith, r refl, short))

pub half_needs : (k max b c : ℕ) → b ≡ 4 * 2 ^ k → b < max → b < 2 ^ 63 → c ≤ full_capacity b / 2 → (need : ℕ)
    × (buckets_for max c ≡ Some need) × (need ≤ b)
half_needs k max b c size reached addressable half =
    fit_needs k max b c size reached
    (omega (arith, half, full_capacity-eighths b, gap, size, pow-add 2 k 2)) (omega (arith, half))
  where
    gap : 2 * 2 ^ (k + 2) ≤ 2 ^ 63
    gap = power_gap (k + 2) 63 (omega (arith, size, addressable, pow-add 2 k 2))

pub target_keeps : (k max e b c : ℕ) → b ≡ 4 * 2 ^ k → b < max → b < 2 ^ 63 → c ≤ full_capacity b / 2
    → target max e b c ≡ same_table
unfolding target
target_keeps k max e b c size reached addressable half = from (half_needs k max b c size reached addressable half)
  where
    from : (need : ℕ) × (buckets_for max c ≡ Some need) × (need ≤ b) → target_from max e b c (buckets_for max c)
        ≡ same_table
    from (need, is, small) = let t : nat_lt b need ≡ false = grind (arith, nat_tests) in
        let u : nat_le c (full_capacity b / 2) ≡ true = grind (arith, nat_tests) in rw (is, t, u) refl
