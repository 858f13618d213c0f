-- The next table has at least twice the buckets, and holds at least twice the pairs.
use Rattle.std.proofs.Common.{◌≡◌, ℕ, zero, suc, ◌+◌, ◌-◌, ◌*◌, ◌/◌, ◌^◌, ◌<◌, ◌≤◌, ◌⊎◌, Bool, true, false, cond}
use Rattle.std.proofs.Common.{Option}
use Rattle.std.proofs.Common.{Some, None, refl, sym, ap, ◌∙◌, arith, le_of_eq, pow_pos, pow-add, inl, inr, unwrap_or}
use Rattle.std.proofs.Common.{subst}
use native.Mathlib.Decide.{dec_lt}
use Rattle.std.proofs.Math.Pow.{pow_mono}
use Rattle.std.specs.Prelude.{nat_lt, nat_le, ◌==◌}
use Rattle.std.proofs.lemmas.Bool.Decides.{nat_tests}
use Rattle.std.proofs.lemmas.Option.{cond_some, same_Some}
use Rattle.group_table.specs.Sizes.{IsPowerFromFour, IsBucketCount, full_capacity, least_power, below, buckets_for}
use Rattle.group_table.proofs.PowerLemmas.{doubled, first_power_least, first_power_shape, power_gap}
use Rattle.group_table.proofs.SizeLemmas.{full_capacity-large, power_pos}
use Rattle.lru_model.specs.Sizes.{bytes_of, usage, same_table, new_table, table_of, table_with, target_from}
use Rattle.lru_model.specs.Sizes.{target}

pub sizes_of : (k b : ℕ) → b ≡ 4 * 2 ^ k → (b ≡ 4) ⊎ ((b ≡ 8) ⊎ (16 ≤ b))
sizes_of zero b e = inl e
sizes_of (suc zero) b e = inr (inl e)
sizes_of (suc (suc k)) b e = inr (inr (omega (arith, e, doubled 4 (suc k), doubled 8 k, pow_pos k)))

pub full_capacity-double : (k b c : ℕ) → b ≡ 4 * 2 ^ k → 2 * b ≤ c → 2 * full_capacity b ≤ full_capacity c
unfolding full_capacity
full_capacity-double k b c e h = let s = sizes_of k b e in grind (arith, nat_tests, s)

pub full_capacity-at_most : (b : ℕ) → full_capacity b ≤ b
unfolding full_capacity
full_capacity-at_most b = grind (arith, nat_tests)

pub full_capacity-eighths : (b : ℕ) → 8 * full_capacity b ≤ 7 * b
unfolding full_capacity
full_capacity-eighths b = grind (arith, nat_tests)

pub full_capacity-mono : (m n : ℕ) → m ≤ n → full_capacity m ≤ full_capacity n
unfolding full_capacity
full_capacity-mono m n h = grind (arith, nat_tests)

pub least_power_at_least : (n : ℕ) → n ≤ 2 ^ 64 → n ≤ least_power n
unfolding least_power
least_power_at_least n h = first_power_least 64 n 1 (omega arith)

pub least_power_shape : (n : ℕ) → (j : ℕ) × (least_power n ≡ 2 ^ j)
unfolding least_power
least_power_shape n = let s = first_power_shape 64 n 1 in (s.0, s.1 ∙ omega arith)

pub IsSize : ℕ → Type 0
IsSize n = (n ≡ 0) ⊎ ((j : ℕ) × (n ≡ 2 ^ j))

pub buckets_shape : (max c n : ℕ) → buckets_for max c ≡ Some n → IsSize n
unfolding buckets_for IsSize
buckets_shape max c n = pick (c == 0) (nat_lt c 4) (nat_lt c 8) (nat_lt (8 * c) (2 ^ 64))
  where
    pick : (a b d e : Bool)
        → cond a (Some 0) (cond b (below max 4)
        (cond d (below max 8) (cond e (below max (least_power (8 * c / 7))) None))) ≡ Some n → (n ≡ 0)
        ⊎ ((j : ℕ) × (n ≡ 2 ^ j))
    pick true b d e h = inl (grind arith)
    pick false true d e h = inr (2, sym ((cond_some _ _ _ h).1))
    pick false false true e h = inr (3, sym ((cond_some _ _ _ h).1))
    pick false false false true h = let s = least_power_shape (8 * c / 7) in
        inr (s.0, sym ((cond_some _ _ _ h).1) ∙ s.1)
    pick false false false false h = inl (grind arith)

buckets_double_large : (b max n : ℕ) → 16 ≤ b → (b / 8 * 8 ≡ b) → buckets_for max (full_capacity (2 * b)) ≡ Some n
    → 2 * b ≤ n
unfolding buckets_for full_capacity
buckets_double_large b max n l m = pick (full_capacity (2 * b)) (grind (arith, nat_tests))
  where
    pick : (c : ℕ) → c ≡ 2 * b / 8 * 7 → buckets_for max c ≡ Some n → 2 * b ≤ n
    pick c e = split (c == 0) (nat_lt c 4) (nat_lt c 8) (nat_lt (8 * c) (2 ^ 64)) (grind (arith, nat_tests))
        (grind (arith, nat_tests)) (grind (arith, nat_tests)) (λ h. grind (arith, nat_tests))
      where
        split : (a b' d e' : Bool) → a ≡ false → b' ≡ false → d ≡ false → (e' ≡ true → 8 * c < 2 ^ 64) →
            cond a (Some 0) (cond b' (below max 4)
            (cond d (below max 8) (cond e' (below max (least_power (8 * c / 7))) None))) ≡ Some n → 2 * b ≤ n
        split true b' d e' x y z w h = grind arith
        split false true d e' x y z w h = grind arith
        split false false true e' x y z w h = grind arith
        split false false false true x y z w h = let f : least_power (8 * c / 7) ≡ n = (cond_some _ _ _ h).1 in
            let g = w refl in let i = least_power_at_least (8 * c / 7) (omega arith) in omega arith
        split false false false false x y z w h = grind arith

buckets_double_4 : (max n : ℕ) → buckets_for max (full_capacity 8) ≡ Some n → 8 ≤ n
unfolding buckets_for full_capacity
buckets_double_4 max n h = le_of_eq ((cond_some (nat_lt 8 max) 8 n h).1)

buckets_double_8 : (max n : ℕ) → buckets_for max (full_capacity 16) ≡ Some n → 16 ≤ n
unfolding buckets_for full_capacity least_power
buckets_double_8 max n h = le_of_eq ((cond_some (nat_lt 16 max) 16 n h).1)

pub buckets_double : (k b max n : ℕ) → b ≡ 4 * 2 ^ k → buckets_for max (full_capacity (2 * b)) ≡ Some n → 2 * b ≤ n
buckets_double zero b max n e h = rw e (buckets_double_4 max n (rw e at h))
buckets_double (suc zero) b max n e h = rw e (buckets_double_8 max n (rw e at h))
buckets_double (suc (suc k)) b max n e h = buckets_double_large b max n
    (omega (arith, e, doubled 4 (suc k), doubled 8 k, pow_pos k)) (omega (arith, e, doubled 4 (suc k), doubled 8 k)) h

pub table_of_is : (m n bytes : ℕ) (u : Option ℕ) → table_of m u ≡ new_table n bytes → (m ≡ n) × (u ≡ Some bytes)
table_of_is m n bytes None h = grind arith
table_of_is m n bytes (Some x) h = grind arith

pub table_with_is : (e n bytes : ℕ) (m : Option ℕ) → table_with e m ≡ new_table n bytes → (m ≡ Some n)
    × (usage e n ≡ Some bytes)
table_with_is e n bytes None h = grind arith
table_with_is e n bytes (Some m) h = let p = table_of_is m n bytes (usage e m) h in
    (ap Some p.0, ap (usage e) (sym p.0) ∙ p.1)

pub target_doubles : (k max e b c n bytes : ℕ) → b ≡ 4 * 2 ^ k → target max e b c ≡ new_table n bytes → 2 * b ≤ n
unfolding target IsSize
target_doubles k max e b c n bytes size = from (buckets_for max c) refl
  where
    large : (need : ℕ) → IsSize need → b < need → 2 * b ≤ need
    large need (inl z) l = omega arith
    large need (inr s) l = let p : b ≡ 2 ^ (k + 2) = size ∙ omega (arith, pow-add 2 k 2) in let g : 2 ^ (k + 2)
        < 2 ^ s.0 = omega arith in omega (arith, power_gap (k + 2) s.0 g)

    from : (need : Option ℕ) → buckets_for max c ≡ need → target_from max e b c need ≡ new_table n bytes → 2 * b ≤ n
    from None q h = grind arith
    from (Some need) q h = split (nat_lt b need) (nat_le c (full_capacity b / 2)) (λ f. grind (arith, nat_tests)) h
      where
        split : (t u : Bool) → (t ≡ true → b < need)
            → cond t (table_with e (Some need))
            (cond u same_table (table_with e (buckets_for max (full_capacity (2 * b))))) ≡ new_table n bytes → 2 * b ≤ n
        split true u l h = let p : need ≡ n = (table_of_is need n bytes (usage e need) h).0 in
            rw (← p) (large need (buckets_shape max c need q) (l refl))
        split false true l h = grind arith
        split false false l h = buckets_double k b max n size (table_with_is e n bytes _ h).0

pub usage_addressable : (e n bytes : ℕ) → usage e n ≡ Some bytes → n + 16 < 2 ^ 63
unfolding usage
usage_addressable e n bytes h = go (n == 0) (nat_le (bytes_of e n) (2 ^ 63 - 16)) (λ z. grind (arith, nat_tests))
    (λ z. grind (arith, nat_tests)) h
  where
    go : (b c : Bool) → (b ≡ true → n ≡ 0) → (c ≡ true → n + 16 ≤ 2 ^ 63 - 16)
        → cond b (Some 0) (cond c (Some (bytes_of e n)) None) ≡ Some bytes → n + 16 < 2 ^ 63
    go true c z l h = omega (arith, z refl)
    go false true z l h = omega (arith, l refl)
    go false false z l h = absurd (grind arith)

pub usage_bytes : (e n bytes : ℕ) → 0 < n → usage e n ≡ Some bytes → (bytes_of e n ≡ bytes)
    × (bytes_of e n ≤ 2 ^ 63 - 16)
unfolding usage
usage_bytes e n bytes some h = go (n == 0) (nat_le (bytes_of e n) (2 ^ 63 - 16)) (λ z. grind (arith, nat_tests))
    (λ z. grind (arith, nat_tests)) h
  where
    go : (b c : Bool) → (b ≡ true → n ≡ 0) → (c ≡ true → bytes_of e n ≤ 2 ^ 63 - 16)
        → cond b (Some 0) (cond c (Some (bytes_of e n)) None) ≡ Some bytes
        → (bytes_of e n ≡ bytes) × (bytes_of e n ≤ 2 ^ 63 - 16)
    go true c z le h = absurd (omega (arith, z refl, some))
    go false true z le h = (ap (λ o. unwrap_or o (bytes_of e n)) h, le refl)
    go false false z le h = absurd cc

pub target_usage : (max e b c n bytes : ℕ) → target max e b c ≡ new_table n bytes → usage e n ≡ Some bytes
unfolding target
target_usage max e b c n bytes = from (buckets_for max c)
  where
    from : (need : Option ℕ) → target_from max e b c need ≡ new_table n bytes → usage e n ≡ Some bytes
    from None h = absurd (grind arith)
    from (Some need) h = split (nat_lt b need) (nat_le c (full_capacity b / 2)) h
      where
        split : (t u : Bool)
            → cond t (table_with e (Some need))
            (cond u same_table (table_with e (buckets_for max (full_capacity (2 * b))))) ≡ new_table n bytes
            → usage e n ≡ Some bytes
        split true u h = (table_with_is e n bytes (Some need) h).1
        split false true h = absurd (grind arith)
        split false false h = (table_with_is e n bytes _ h).1

pub full_capacity-4 : full_capacity 4 ≡ 3
unfolding full_capacity
full_capacity-4 = refl

pub full_capacity-some : (b : ℕ) → IsPowerFromFour b → 3 ≤ full_capacity b
unfolding full_capacity
full_capacity-some b power = let s = sizes_of power.0 b power.1 in grind (arith, nat_tests)

pub full_capacity-even : (b : ℕ) → IsPowerFromFour b → 8 < b → 2 * (full_capacity b / 2) ≡ full_capacity b
full_capacity-even b (zero, e) h = absurd (omega (arith, e))
full_capacity-even b (suc zero, e) h = absurd (omega (arith, e))
full_capacity-even b (suc (suc k), e) h =
    let eights : b ≡ 8 * (2 * 2 ^ k) = omega (arith, e, doubled 4 (suc k), doubled 8 k) in
    omega (arith, eights, full_capacity-large b h)

pub buckets_below : (max c n : ℕ) → buckets_for max c ≡ Some n → 0 < n → n < max
unfolding buckets_for
buckets_below max c n = pick (c == 0) (nat_lt c 4) (nat_lt c 8) (nat_lt (8 * c) (2 ^ 64))
  where
    reached : (m : ℕ) → below max m ≡ Some n → n < max
    reached m h = grind (arith, nat_tests)

    pick : (a b d e : Bool)
        → cond a (Some 0) (cond b (below max 4)
        (cond d (below max 8) (cond e (below max (least_power (8 * c / 7))) None))) ≡ Some n → 0 < n → n < max
    pick true b d e h p = absurd (grind arith)
    pick false true d e h p = reached 4 h
    pick false false true e h p = reached 8 h
    pick false false false true h p = reached (least_power (8 * c / 7)) h
    pick false false false false h p = absurd (grind arith)

target_need : (max e b c n bytes : ℕ) → target max e b c ≡ new_table n bytes → (pairs : ℕ)
    × (buckets_for max pairs ≡ Some n)
unfolding target
target_need max e b c n bytes = from (buckets_for max c) refl
  where
    from : (need : Option ℕ) → buckets_for max c ≡ need → target_from max e b c need ≡ new_table n bytes → (pairs : ℕ)
        × (buckets_for max pairs ≡ Some n)
    from None q h = absurd (grind arith)
    from (Some need) q h = split (nat_lt b need) (nat_le c (full_capacity b / 2)) h
      where
        split : (t u : Bool)
            → cond t (table_with e (Some need))
            (cond u same_table (table_with e (buckets_for max (full_capacity (2 * b))))) ≡ new_table n bytes →
            (pairs : ℕ) × (buckets_for max pairs ≡ Some n)
        split true u h = (c, q ∙ (table_with_is e n bytes (Some need) h).0)
        split false true h = absurd (grind arith)
        split false false h = (full_capacity (2 * b), (table_with_is e n bytes _ h).0)

size_power : (n : ℕ) → 4 ≤ n → IsSize n → IsPowerFromFour n
unfolding IsSize
size_power n least (inl none) = absurd (omega (arith, least, none))
size_power n least (inr (j, e)) = go (dec_lt j 2)
  where
    go : Dec (j < 2) → IsPowerFromFour n
    go (yes small) = absurd (let z : 2 ^ j ≤ 2 ^ 1 = pow_mono {i = j} {j = 1} (omega arith) in
        omega (arith, z, e, least))
    go (no large) = let f : j ≡ 2 + (j - 2) = omega arith in (j - 2, e ∙ ap (λ k. 2 ^ k) f ∙ pow-add 2 2 (j - 2))

pub target_reached : (max e b c n bytes : ℕ) → IsPowerFromFour b → target max e b c ≡ new_table n bytes
    → IsPowerFromFour n × (n < max)
unfolding IsSize
target_reached max e b c n bytes power h = (
  size_power n (omega (arith, doubles, least)) (buckets_shape max need.0 n need.1),
  buckets_below max need.0 n need.1 (omega (arith, doubles, least)),
)
  where
    need : (pairs : ℕ) × (buckets_for max pairs ≡ Some n)
    need = target_need max e b c n bytes h

    doubles : 2 * b ≤ n
    doubles = target_doubles power.0 max e b c n bytes power.1 h

    least : 4 ≤ b
    least = power_pos b power

buckets_some : (max c n : ℕ) → 0 < c → buckets_for max c ≡ Some n → 4 ≤ n
unfolding buckets_for
buckets_some max c n some = pick (c == 0) (nat_lt c 4) (nat_lt c 8) (nat_lt (8 * c) (2 ^ 64))
    (grind (arith, nat_tests)) (λ e. grind (arith, nat_tests)) (λ e. grind (arith, nat_tests))
  where
    pick : (a b d e : Bool) → a ≡ false → (d ≡ false → 8 ≤ c) → (e ≡ true → 8 * c < 2 ^ 64)
        → cond a (Some 0) (cond b (below max 4)
        (cond d (below max 8) (cond e (below max (least_power (8 * c / 7))) None))) ≡ Some n → 4 ≤ n
    pick true b d e p q r h = absurd cc
    pick false true d e p q r h = omega (arith, (cond_some (nat_lt 4 max) 4 n h).1)
    pick false false true e p q r h = omega (arith, (cond_some (nat_lt 8 max) 8 n h).1)
    pick false false false true p q r h = let l = q refl in let u = r refl in let m = least_power_at_least (8 * c / 7)
        (omega (arith, u)) in
        omega (arith, (cond_some (nat_lt (least_power (8 * c / 7)) max) (least_power (8 * c / 7)) n h).1, l, m)
    pick false false false false p q r h = absurd (grind arith)

first_least : (max e c n bytes : ℕ) → 0 < c → target max e 0 c ≡ new_table n bytes → 4 ≤ n
unfolding target
first_least max e c n bytes some = from (buckets_for max c) refl
  where
    from : (need : Option ℕ) → buckets_for max c ≡ need → target_from max e 0 c need ≡ new_table n bytes → 4 ≤ n
    from None q h = absurd (grind arith)
    from (Some need) q h = split (nat_lt 0 need) (grind (arith, nat_tests, least)) h
      where
        least : 4 ≤ need
        least = buckets_some max c need some q

        split : (t : Bool) → t ≡ true
            → cond t (table_with e (Some need))
            (cond (nat_le c (full_capacity 0 / 2)) same_table (table_with e (buckets_for max (full_capacity (2 * 0)))))
            ≡ new_table n bytes → 4 ≤ n
        split true p h = subst (λ m. 4 ≤ m) (same_Some need n (table_with_is e n bytes (Some need) h).0) least
        split false p h = absurd cc

pub target_new : (max e b c n bytes : ℕ) → IsBucketCount b → 0 < c → target max e b c ≡ new_table n bytes
    → IsPowerFromFour n × (n < max) × (full_capacity b ≤ full_capacity n)
target_new max e b c n bytes (inr power) some h =
    let r = target_reached max e b c n bytes power h in (
      r.0,
      r.1,
      omega (
        arith,
        full_capacity-double power.0 b n power.1
            (target_doubles power.0 max e b c n bytes power.1 h),
      ),
    )
target_new max e b c n bytes (inl none) some h =
    let first : target max e 0 c ≡ new_table n bytes = subst (λ m. target max e m c ≡ new_table n bytes) none h in
    let least = first_least max e c n bytes some first in
    let need = target_need max e b c n bytes h in (
      size_power n least (buckets_shape max need.0 n need.1),
      buckets_below max need.0 n need.1 (omega (arith, least)),
      omega (arith, none, full_capacity-at_most b),
    )

pub first_target-count : (max e n bytes : ℕ) → target max e 0 1 ≡ new_table n bytes → n ≡ 4
unfolding target buckets_for
first_target-count max e n bytes = go (nat_lt 4 max)
  where
    by : (u : Option ℕ) → table_of 4 u ≡ new_table n bytes → n ≡ 4
    by None h = absurd (grind arith)
    by (Some x) h = grind arith

    go : (b : Bool) → target_from max e 0 1 (cond b (Some 4) None) ≡ new_table n bytes → n ≡ 4
    go true h = by (usage e 4) h
    go false h = absurd (grind arith)

pub target-same : (max e b c : ℕ) → target max e b c ≡ same_table → c ≤ full_capacity b / 2
unfolding target
target-same max e b c = from (buckets_for max c)
  where
    no_same : (m : ℕ) (u : Option ℕ) → table_of m u ≡ same_table → ⊥
    no_same m None h = grind arith
    no_same m (Some x) h = grind arith

    none_same : (m : Option ℕ) → table_with e m ≡ same_table → ⊥
    none_same None h = grind arith
    none_same (Some m) h = no_same m (usage e m) h

    from : (need : Option ℕ) → target_from max e b c need ≡ same_table → c ≤ full_capacity b / 2
    from None h = absurd (grind arith)
    from (Some need) h = split (nat_lt b need) (nat_le c (full_capacity b / 2)) (λ q. grind (arith, nat_tests)) h
      where
        split : (t u : Bool) → (u ≡ true → c ≤ full_capacity b / 2)
            → cond t (table_with e (Some need))
            (cond u same_table (table_with e (buckets_for max (full_capacity (2 * b))))) ≡ same_table → c
            ≤ full_capacity b / 2
        split true u l h = absurd (none_same (Some need) h)
        split false true l h = l refl
        split false false l h = absurd (none_same (buckets_for max (full_capacity (2 * b))) h)
