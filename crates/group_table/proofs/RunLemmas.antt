-- The numbers of used buckets before b and from b on decide whether each run of 16 buckets around b contains an empty
-- bucket.
use Rattle.std.proofs.Common.{◌≡◌, ◌≢◌, ℕ, ◌+◌, ◌-◌, ◌%◌, ◌<◌, ◌≤◌, List, get_or, refl, ap, sym, ◌∙◌, arith, nat_lt}
use Rattle.std.proofs.Common.{MatchBool}
use Rattle.std.specs.Prelude.{slice_index}
use Rattle.std.proofs.Math.Nat.{mod-add-mod, mod-lt, mod-eq_of_lt}
use Rattle.std.proofs.lemmas.Bool.{lt-ltb, le-ltb}
use native.Mathlib.Decide.{dec_lt}
use Rattle.group_table.specs.Neighbours.{HasEmptyNeighbours, IsHemmedIn}
use Rattle.group_table.specs.Bytes.{empty_byte}
use Rattle.group_table.specs.Group.{IsEmptyAt}
use Rattle.group_table.proofs.Circle.{distance}

-- `run` used buckets are directly before b: 16, or fewer if an empty bucket precedes them
pub record IsRunBefore (control : List ℕ) (buckets b run : ℕ) : Type 0 where
  pub bound : run ≤ 16
  pub used : (x steps : ℕ) → x < buckets → 0 < steps → steps ≤ run → (x + steps) % buckets ≡ b
      → slice_index control x ≢ empty_byte
  pub ends : run < 16 → (x : ℕ) → x < buckets → (x + (run + 1)) % buckets ≡ b → slice_index control x ≡ empty_byte

-- `run` used buckets begin with b: 16, or fewer if an empty bucket follows them
pub record IsRunFrom (control : List ℕ) (buckets b run : ℕ) : Type 0 where
  pub bound : run ≤ 16
  pub used : (steps : ℕ) → steps < run → slice_index control ((b + steps) % buckets) ≢ empty_byte
  pub ends : run < 16 → slice_index control ((b + run) % buckets) ≡ empty_byte

module _ (control : List ℕ) (n b before after : ℕ) (pos : 0 < n) (bound : b < n)
    (runs_before : IsRunBefore control n b before) (runs_from : IsRunFrom control n b after) where
  way_to : (start lane steps at : ℕ) → lane + steps ≡ at → (start + at) % n ≡ b → ((start + lane) % n + steps) % n ≡ b
  way_to start lane steps at e h =
      let f : start + lane + steps ≡ start + at = omega arith in
      mod-add-mod (start + lane) n steps ∙ ap (λ k. k % n) f ∙ h

  way_on : (start at steps lane : ℕ) → at + steps ≡ lane → (start + at) % n ≡ b → (start + lane) % n ≡ (b + steps) % n
  way_on start at steps lane e h =
      let f : start + lane ≡ start + at + steps = omega arith in
      ap (λ k. k % n) f ∙ sym (mod-add-mod (start + at) n steps) ∙ ap (λ k. (k + steps) % n) h

  pub empty_neighbours : before + after < 16 → HasEmptyNeighbours (IsEmptyAt control) n b
  empty_neighbours p start at q h =
      elim (dec_lt before at) [
        | yes r ↦
            let lane = at - before - 1 in (
              lane,
              omega arith,
              runs_before.ends (omega arith) ((start + lane) % n) (mod-lt _ pos)
                  (way_to start lane (before + 1) at (omega arith) h),
            )
        | no r ↦ (
          at + after,
          omega arith,
          rw (way_on start at after (at + after) refl h)
              (runs_from.ends (omega arith)),
        )
      ]

  hemmed_at : (at : ℕ) → at < 16 → at ≤ before → 16 ≤ at + after → IsHemmedIn (IsEmptyAt control) n b
  hemmed_at at p q r =
      let d = distance n (at % n) b (mod-lt at pos) bound in
      let there : (d.0 + at) % n ≡ b =
      (let e : d.0 + at ≡ at + d.0 = omega arith in ap (λ k. k % n) e ∙ sym (mod-add-mod at n d.0) ∙ d.2) in
      record {
        start = d.0;
        at = at;
        within = p;
        there = there;
        none_empty = λ lane below. elim (dec_lt lane at) [
          | yes s ↦ runs_before.used ((d.0 + lane) % n) (at - lane) (mod-lt _ pos) (omega arith) (omega arith)
              (way_to d.0 lane (at - lane) at (omega arith) there)
          | no s ↦ rw (way_on d.0 at (lane - at) lane (omega arith) there) (runs_from.used (lane - at) (omega arith))
        ];
      }

  pub hemmed_in : 16 ≤ before + after → get_or control b 0 ≢ 255 → IsHemmedIn (IsEmptyAt control) n b
  hemmed_in p used =
      elim (dec_lt before 16) [
        | yes q ↦ hemmed_at before q (omega arith) p
        | no q ↦ elim (dec_lt 0 after) [
          | yes r ↦ hemmed_at 15 (omega arith) (omega arith) (omega arith)
          | no r ↦
              let e : b + after ≡ b = omega arith in
              let z : (b + after) % n ≡ b = ap (λ k. k % n) e ∙ mod-eq_of_lt bound in
              absurd (used (ap (λ k. get_or control k 0) (sym z) ∙ runs_from.ends (omega arith)))
        ]
      ]

  pub run_tells : get_or control b 0 ≢ 255
      → MatchBool (nat_lt (before + after) 16) (HasEmptyNeighbours (IsEmptyAt control) n b)
      (IsHemmedIn (IsEmptyAt control) n b)
  run_tells used =
      elim (dec_lt (before + after) 16) [
        | yes p ↦ rw (lt-ltb (before + after) 16 p) (empty_neighbours p)
        | no p ↦ rw (le-ltb (before + after) 16 (omega arith)) (hemmed_in (omega arith) used)
      ]
