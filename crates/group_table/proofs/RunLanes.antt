-- The runs of used buckets around a bucket, by the lanes of two groups.
use Rattle.std.proofs.Common.{◌≡◌, ◌≢◌, ℕ, ◌+◌, ◌-◌, ◌%◌, ◌<◌, ◌≤◌, List, get_or, ap, sym, ◌∙◌, arith, nat_lt}
use Rattle.std.proofs.Common.{MatchBool}
use Rattle.std.proofs.Math.Nat.{mod-add-mod, add-mod_right, mod-lt, mod-eq_of_lt}
use Rattle.std.proofs.lemmas.Bool.{lt-ltb}
use native.Mathlib.Decide.{dec_lt}
use Rattle.group_table.specs.Sizes.{IsPowerFromFour}
use Rattle.group_table.specs.Lanes.{IsRepeated, IsMaskAt, HasLane}
use Rattle.group_table.specs.Neighbours.{HasEmptyNeighbours, IsHemmedIn}
use Rattle.group_table.specs.Group.{IsEmptyAt}
use Rattle.group_table.proofs.Circle.{distance, same_place}
use Rattle.group_table.proofs.RunLemmas.{IsRunBefore, IsRunFrom, run_tells}
use Rattle.group_table.proofs.LaneLemmas.{all_real, lane_byte, byte_between}

module _ (control : List ℕ) (n : ℕ) (power : IsPowerFromFour n) (repeated : IsRepeated control n) (b : ℕ)
    (bound : b < n) where
  module _ (mask run : ℕ) (small : run ≤ 16) where
    module _ (h : IsMaskAt (λ byte. byte ≡ 255) control b mask)
        (none : (lane : ℕ) → lane < run → HasLane mask lane → ⊥) where
      pub run_from_lanes : (run < 16 → HasLane mask run) → 16 ≤ n → IsRunFrom control n b run
      run_from_lanes end wide = record {
        bound = small;
        used = λ steps p e. none steps p
            ((h steps).1 (
              omega arith,
              lane_byte n b power bound control repeated steps (omega arith)
                  (all_real n b wide steps) ∙ e,
            ));
        ends = λ p. sym (lane_byte n b power bound control repeated run p (all_real n b wide run))
            ∙ ((h run).0 (end p)).1;
      }

      pub run_from_small : n < 16 → b + run ≤ n
      run_from_small p = elim (dec_lt n (b + run)) [
        | yes q ↦ absurd
            (none (n - b) (omega arith)
            ((h (n - b)).1 (
              omega arith,
              byte_between n b power bound control repeated (n - b) (omega arith)
                  (omega arith),
            )))
        | no q ↦ omega arith
      ]

    module _ (start : ℕ) (is : start ≡ (b + (n - 16)) % n) (h : IsMaskAt (λ byte. byte ≡ 255) control start mask)
        (none : (lane : ℕ) → lane < 16 → 16 ≤ lane + run → HasLane mask lane → ⊥) where
      start_within : start < n
      start_within = rw is (mod-lt _ (omega arith))

      place_before : 16 ≤ n → (x steps : ℕ) → x < n → 0 < steps → steps ≤ 16 → (x + steps) % n ≡ b
          → get_or control (start + (16 - steps)) 0 ≡ get_or control x 0
      place_before wide x steps p q r e =
          let lane = 16 - steps in
          let round : b + (n - 16) + 16 ≡ b + n = omega arith in
          let sum : start + lane + steps ≡ start + 16 = omega arith in
          let there : (start + 16) % n ≡ b =
          ap (λ k. (k + 16) % n) is ∙ mod-add-mod (b + (n - 16)) n 16 ∙ ap (λ k. k % n) round ∙ add-mod_right b n
          ∙ mod-eq_of_lt bound in
          let way : ((start + lane) % n + steps) % n ≡ b =
          mod-add-mod (start + lane) n steps ∙ ap (λ k. k % n) sum ∙ there in
          lane_byte n start power start_within control repeated lane (omega arith) (all_real n start wide lane)
          ∙ ap (λ k. get_or control k 0)
          (sym (same_place n x ((start + lane) % n) steps b p (mod-lt _ (omega arith)) e way))

      pub run_before_lanes : (run < 16 → HasLane mask (15 - run)) → 16 ≤ n → IsRunBefore control n b run
      run_before_lanes end wide = record {
        bound = small;
        used = λ x steps p q r e full. none (16 - steps) (omega arith) (omega arith)
            ((h (16 - steps)).1 (omega arith, place_before wide x steps p q (omega arith) e ∙ full));
        ends = λ p x q e.
            let lane : 16 - (run + 1) ≡ 15 - run = omega arith in
            sym (place_before wide x (run + 1) q (omega arith) (omega arith) e)
            ∙ ap (λ k. get_or control (start + k) 0) lane ∙ ((h (15 - run)).0 (end p)).1;
      }

      pub run_before_small : n < 16 → run ≤ b
      run_before_small p =
          let none_left : b + (n - 16) ≡ b = omega arith in
          let here : start ≡ b = is ∙ ap (λ k. k % n) none_left ∙ mod-eq_of_lt bound in
          elim (dec_lt b run) [
            | yes q ↦
                absurd (none (15 - b) (omega arith) (omega arith)
                ((h (15 - b)).1 (
                  omega arith,
                  byte_between n start power start_within control repeated (15 - b)
                      (omega (arith, here)) (omega (arith, here)),
                )))
            | no q ↦ omega arith
          ]

  empty_beside : (e : ℕ) → e < n → get_or control e 0 ≡ 255 → n < 16 → HasEmptyNeighbours (IsEmptyAt control) n b
  empty_beside e within byte p start at q r =
      let d = distance n (start % n) e (mod-lt start (omega arith)) within in
      (d.0, omega (arith, d.1), ap (λ k. get_or control k 0) (sym (mod-add-mod start n d.0) ∙ d.2) ∙ byte)

  pub lanes_tell : (before after : ℕ) → (16 ≤ n → IsRunBefore control n b before) → (n < 16 → before ≤ b)
      → (16 ≤ n → IsRunFrom control n b after) → (n < 16 → b + after ≤ n)
      → get_or control b 0 ≢ 255 → (e : ℕ) → e < n → get_or control e 0 ≡ 255
      → MatchBool (nat_lt (before + after) 16) (HasEmptyNeighbours (IsEmptyAt control) n b)
      (IsHemmedIn (IsEmptyAt control) n b)
  lanes_tell before after wide_before small_before wide_after small_after used e within byte =
      elim (dec_lt n 16) [
        | yes p ↦
            let less : before + after < 16 = omega (arith, small_before p, small_after p) in
            rw (lt-ltb (before + after) 16 less) (empty_beside e within byte p)
        | no p ↦ run_tells control n b before after (omega arith) bound (wide_before (omega arith))
            (wide_after (omega arith)) used
      ]
