use Rattle.std.proofs.Common.{◌≡◌, ℕ, ◌+◌, ◌*◌, ◌/◌, ◌^◌, ◌<◌, ◌≤◌, Bool, true, false, cond, Option, Some, None}
use Rattle.std.proofs.Common.{Result, Ok, Err, OnOk, refl, sym, ap, ◌∙◌, subst, arith, length, inl, inr}
use Rattle.std.specs.Prelude.{nat_lt, nat_le, ◌==◌}
use Rattle.std.proofs.lemmas.Bool.Decides.{nat_tests}
use Rattle.std.proofs.lemmas.Option.{cond_some, same_Some}
use Rattle.group_table.specs.Sizes.{full_capacity, least_power, below, buckets_for}
use Rattle.group_table.proofs.SizeLemmas.{takes_enough, full_capacity-small}
use Rattle.lru_limits.specs.Rules.{Rules}
use Rattle.lru_model.specs.Sizes.{same_table, new_table, table_with, target_from, target}
use Rattle.lru_model.specs.State.{State, buckets, growth_left, IsSized}
use Rattle.lru_model.specs.Reservations.{Reserve, unchanged, rehashed, reserved, asked_only, enough_room, too_many}
use Rattle.lru_model.specs.Reservations.{no_such_table, no_memory_to_rehash}
use Rattle.lru_model.specs.declared.results.ReserveError.{ReserveError}
use Rattle.lru_model.proofs.TableSizes.NextTable.{larger_takes}
use Rattle.lru_model.proofs.TableSizes.Growth.{full_capacity-mono, least_power_at_least, least_power_shape}
use Rattle.lru_model.proofs.TableSizes.Growth.{table_with_is, target-same}

buckets_take : (max c n : ℕ) → buckets_for max c ≡ Some n → c ≤ full_capacity n
unfolding buckets_for
buckets_take max c n =
    pick (c == 0) (nat_lt c 4) (nat_lt c 8) (nat_lt (8 * c) (2 ^ 64)) (λ e. grind (arith, nat_tests))
    (λ e. grind (arith, nat_tests)) (λ e. grind (arith, nat_tests)) (λ e. grind (arith, nat_tests))
    (λ e. grind (arith, nat_tests))
  where
    pick : (a b d e : Bool) → (a ≡ true → c ≡ 0) → (b ≡ true → c < 4) → (d ≡ true → c < 8) → (d ≡ false → 8 ≤ c)
        → (e ≡ true → 8 * c < 2 ^ 64)
        → cond a (Some 0) (cond b (below max 4)
        (cond d (below max 8) (cond e (below max (least_power (8 * c / 7))) None))) ≡ Some n → c ≤ full_capacity n
    pick true b d e p q r s t h = omega (arith, p refl)
    pick false true d e p q r s t h = let is : 4 ≡ n = (cond_some (nat_lt 4 max) 4 n h).1 in
        omega (arith, full_capacity-small n (omega (arith, is)), is, q refl)
    pick false false true e p q r s t h = let is : 8 ≡ n = (cond_some (nat_lt 8 max) 8 n h).1 in
        omega (arith, full_capacity-small n (omega (arith, is)), is, r refl)
    pick false false false true p q r s t h =
        let is : least_power (8 * c / 7)
        ≡ n = (cond_some (nat_lt (least_power (8 * c / 7)) max) (least_power (8 * c / 7)) n h).1 in
        let shape = least_power_shape (8 * c / 7) in let most = t refl in let least = least_power_at_least (8 * c / 7)
        (omega (arith, most)) in
        (takes_enough c n (shape.0, sym is ∙ shape.1) (s refl) (omega (arith, is, least))).1
    pick false false false false p q r s t h = absurd (grind arith)

pub target_takes : (max e b c n bytes : ℕ) → full_capacity b ≤ full_capacity n → target max e b c ≡ new_table n bytes → c
    ≤ full_capacity n
unfolding target
target_takes max e b c n bytes larger = from (buckets_for max c) refl
  where
    from : (need : Option ℕ) → buckets_for max c ≡ need → target_from max e b c need ≡ new_table n bytes → c
        ≤ full_capacity n
    from None q h = absurd (grind arith)
    from (Some need) q h = split (nat_lt b need) (nat_le c (full_capacity b / 2)) (λ f. grind (arith, nat_tests)) h
      where
        split : (t u : Bool) → (t ≡ false → need ≤ b) → cond t (table_with e (Some need))
            (cond u same_table (table_with e (buckets_for max (full_capacity (2 * b))))) ≡ new_table n bytes → c
            ≤ full_capacity n
        split true u f h = subst (λ m. c ≤ full_capacity m)
            (same_Some need n (table_with_is e n bytes (Some need) h).0) (buckets_take max c need q)
        split false true f h = absurd (grind arith)
        split false false f h = omega (arith, buckets_take max c need q, full_capacity-mono need b (f refl), larger)

module _ {K V S H : Type 0} (rules : Rules K V S) (n : ℕ) (old : State K V S H) where
  pub reserved_list : (result : Result (Unit {0}) ReserveError) (new : State K V S H) → Reserve rules n old result new
      → (new.pairs ≡ old.pairs) × (new.counts.moved ≡ old.counts.moved) × (new.counts.placed ≡ old.counts.placed)
      × (new.counts.shrunk ≡ old.counts.shrunk)
  reserved_list result new (unchanged why e) = rw e (refl, refl, refl, refl)
  reserved_list result new (rehashed l t r m) = (
    ap (λ st. st.pairs) m.state,
    ap (λ st. st.counts.moved) m.state,
    ap (λ st. st.counts.placed) m.state,
    ap (λ st. st.counts.shrunk) m.state,
  )
  reserved_list result new (reserved l count bytes t g r m) = (
    ap (λ st. st.pairs) m.state,
    ap (λ st. st.counts.moved) m.state,
    ap (λ st. st.counts.placed) m.state,
    ap (λ st. st.counts.shrunk) m.state,
  )
  reserved_list result new (asked_only l count bytes t f e) = rw e (refl, refl, refl, refl)

  pub makes_room : (new : State K V S H) → IsSized old → Reserve rules n old (Ok tt) new → n ≤ growth_left new
  makes_room new ok (unchanged (enough_room s l r) e) = rw e s
  makes_room new ok (unchanged (too_many l r) e) = absurd cc
  makes_room new ok (unchanged (no_such_table l t r) e) = absurd cc
  makes_room new ok (rehashed l t r m) = omega (
    arith,
    m.exact,
    target-same old.max old.entry_bytes (buckets old)
        (length old.pairs + n) t,
  )
  makes_room new ok (unchanged (no_memory_to_rehash l t p r) e) = absurd cc
  makes_room new ok (reserved l count bytes t g r m) = omega (
    arith,
    m.exact,
    target_takes old.max old.entry_bytes (buckets old) (length old.pairs + n) count bytes
        (larger_takes n old ok (omega (arith, l.0)) count bytes t) t,
  )
  makes_room new ok (asked_only l count bytes t (inl (g, r)) e) = absurd cc
  makes_room new ok (asked_only l count bytes t (inr (d, r)) e) = absurd cc

  pub makes_room_if_ok : IsSized old → (result : Result (Unit {0}) ReserveError) (new : State K V S H)
      → Reserve rules n old result new → OnOk result (n ≤ growth_left new)
  makes_room_if_ok ok (Ok done) new step = makes_room new ok step
  makes_room_if_ok ok (Err e) new step = tt
