use Rattle.std.proofs.Common.{ℕ, ◌+◌, ◌-◌, ◌*◌, ◌^◌, ◌≤◌, ◌<◌, List, [], ◌∷◌, length, sum_by, refl, arith}
use native.Mathlib.Decide.{dec_lt}
use Rattle.std.proofs.lemmas.Bool.{le-leb}
use Rattle.std.proofs.Math.Nat.{suc-mul, mul-le-mul_right}
use Rattle.group_table.specs.Sizes.{full_capacity}
use Rattle.lru_model.proofs.States.EmptyMaps.{empty_is_sound}
use Rattle.lru_model.specs.Sizes.{usage, bytes_of}
use Rattle.lru_model.specs.State.{empty_map}
use Rattle.lru_theory.proofs.Affordable.{spent}
use Rattle.lru_replay.specs.References.{KeepsToCost}
use Rattle.lru_replay.proofs.CostLists.{spent_is}

module _ {K : Type 0} (cost : K → ℕ) (limit : ℕ) (dear : (key : K) → limit < 234881023 * cost key) where
  costs_more : (keys : List K) → length keys * (limit + 1) ≤ 234881023 * spent cost keys
  costs_more [] = omega arith
  costs_more (key ∷ keys) = omega (arith, suc-mul (length keys) (limit + 1), costs_more keys, dear key)

  few_within : (keys : List K) → sum_by cost keys ≤ limit → length keys ≤ 234881022
  few_within keys within = elim (dec_lt 234881022 (length keys)) [
    | no few ↦ omega (arith, few)
    | yes more ↦
        let many : 234881023 * (limit + 1) ≤ length keys * (limit + 1) = mul-le-mul_right (limit + 1) (omega (arith, more)) in
        absurd (omega (arith, many, costs_more keys, spent_is cost keys, within))
  ]

  pub new_keeps : {V H : Type 0} (weight : K → V → ℕ) (entry_bytes max : ℕ) (hasher : H) → limit < 2 ^ 63
      → entry_bytes < 2 ^ 32 - 1 → 2 ^ 31 < max
      → KeepsToCost weight cost (empty_map (record { limit = limit; cost = 0 }) hasher entry_bytes max)
  unfolding full_capacity usage
  new_keeps weight entry_bytes max hasher fits small above = record {
    each = tt;
    summed = refl;
    within = omega arith;
    fits = fits;
    most = 234881022;
    few = few_within;
    tables = record {
      count = 2 ^ 31;
      bytes = bytes_of entry_bytes (2 ^ 31);
      power = (29, refl);
      reached = above;
      usable = rw (le-leb (bytes_of entry_bytes (2 ^ 31)) (2 ^ 63 - 16) (omega (arith, small))) refl;
      takes = omega arith;
    };
    sized = empty_is_sound entry_bytes max;
  }
