use Rattle.std.proofs.Common.{◌≡◌, ℕ, ◌+◌, ◌-◌, ◌*◌, ◌/◌, ◌≤◌, ◌<◌, List, [], ◌∷◌, ◌++◌, length, get_or, set, take, drop}
use Rattle.std.proofs.Common.{sum, replicate, sym, ap, ◌∙◌, arith, min, inl, inr}
use Rattle.std.proofs.lemmas.Bool.{cases_lt}
use Rattle.std.proofs.lemmas.List.{length-set, length-drop, get_or-drop, drop-drop, drop-set-lt, drop-set-add, drop_min}
use Rattle.std.proofs.lemmas.List.{length-replicate, drop-replicate, drop-append-le, length_push}
use Rattle.std.proofs.lemmas.List.Sums.{sum_by-append, sum_by-set, sum_by-drop_more, sum_by-take-drop}
use Rattle.std.proofs.lemmas.List.Folds.{sum_by-replicate}
use Rattle.std.proofs.Math.ListN.{drop_of_length-le}
use Rattle.lru_trace.specs.Blocks.{AreSums, IsAbove}

changed : (xs : List ℕ) (from slot v : ℕ) → slot < length xs → from ≤ slot
    → sum (drop from (set xs slot v)) + get_or xs slot 0 ≡ sum (drop from xs) + v
changed xs from slot v within low =
    let is : from + (slot - from) ≡ slot = omega arith in
    let put = ap (λ s. drop from (set xs s v)) (sym is) ∙ drop-set-add from xs (slot - from) v in
    let read = get_or-drop from xs (slot - from) 0 ∙ ap (λ s. get_or xs s 0) is in
    let short = length-drop from xs in
    omega (arith, ap sum put, read, sum_by-set (λ x. x) (drop from xs) (slot - from) v 0 (omega arith))

pub fewer_from : (xs : List ℕ) (from later : ℕ) → from ≤ later → sum (drop later xs) ≤ sum (drop from xs)
fewer_from xs from later low =
    let is : from + (later - from) ≡ later = omega arith in
    let rest = drop-drop (later - from) from xs ∙ ap (λ n. drop n xs) is in
    omega (arith, ap sum rest, sum_by-take-drop (λ x. x) (drop from xs) (later - from))

pub sum-zeros : (n : ℕ) → sum (replicate n 0) ≡ 0
sum-zeros n = omega (arith, sum_by-replicate (λ x. x) n 0)

pub zeros_are_sums : (slots blocks : ℕ) → slots ≤ 16 * blocks → AreSums (replicate slots 0) (replicate blocks 0)
zeros_are_sums slots blocks enough =
    record {
      enough = omega (arith, enough, length-replicate {A = ℕ} slots 0, length-replicate {A = ℕ} blocks 0);
      from = λ block. rest block blocks ∙ sym (rest (16 * block) slots);
    }
  where
    rest : (from n : ℕ) → sum (drop from (replicate n 0)) ≡ 0
    rest from n = ap sum (drop-replicate from n 0) ∙ sum-zeros (n - from)

module _ {weights sums : List ℕ} (are : AreSums weights sums) (slot : ℕ) (within : slot < length weights) where
  pub block_within : slot / 16 < length sums
  block_within = omega (arith, are.enough)

  pub block_enough : get_or weights slot 0 ≤ get_or sums (slot / 16) 0
  block_enough = omega (
    arith,
    are.from (slot / 16),
    are.from (slot / 16 + 1),
    sum_by-drop_more (λ x. x) sums (slot / 16) 0 block_within,
    sum_by-drop_more (λ x. x) weights slot 0 within,
    fewer_from weights (16 * (slot / 16)) slot (omega arith),
    fewer_from weights (slot + 1) (16 * (slot / 16 + 1)) (omega arith),
  )

  pub near_and_far : (end : ℕ) → end ≡ min (16 * (slot / 16 + 1)) (length weights)
      → sum (take (end - (slot + 1)) (drop (slot + 1) weights)) + sum (drop (slot / 16 + 1) sums)
      ≡ sum (drop (slot + 1) weights)
  near_and_far end is =
      let on : slot + 1 + (end - (slot + 1)) ≡ end = omega (arith, is) in
      let far = drop-drop (end - (slot + 1)) (slot + 1) weights
      ∙ ap (λ n. drop n weights) (on ∙ is) ∙ drop_min (16 * (slot / 16 + 1)) weights in
      let both = sum_by-take-drop (λ x. x) (drop (slot + 1) weights) (end - (slot + 1)) in
      omega (arith, both, ap sum far, are.from (slot / 16 + 1))

  pub changed_sums : (sum_now now : ℕ) → sum_now + get_or weights slot 0 ≡ now + get_or sums (slot / 16) 0
      → AreSums (set weights slot now) (set sums (slot / 16) sum_now)
  changed_sums sum_now now same = record {
    enough = omega (arith, are.enough, length-set weights slot now, length-set sums (slot / 16) sum_now);
    from = λ block. elim (cases_lt slot (16 * block)) [
      | inl past ↦ ap sum (drop-set-lt block sums (slot / 16) sum_now (omega arith)) ∙ are.from block
          ∙ sym (ap sum (drop-set-lt (16 * block) weights slot now past))
      | inr low ↦ omega (
        arith,
        are.from block,
        same,
        changed sums block (slot / 16) sum_now block_within (omega arith),
        changed weights (16 * block) slot now within low,
      )
    ];
  }

pub changed_above : {weights sums : List ℕ} → IsAbove weights sums → (slot : ℕ) → slot < length weights
    → (sum_now now : ℕ) → sum_now + get_or weights slot 0 ≡ now + get_or sums (slot / 16) 0
    → IsAbove (set weights slot now) (set sums (slot / 16) sum_now)
changed_above {weights = weights} {sums = sums} is slot within sum_now now same = (
  omega (arith, is.0, length-set weights slot now, length-set sums (slot / 16) sum_now),
  changed_sums is.1 slot within sum_now now same,
)

pub pushed_sums : {weights sums : List ℕ} → AreSums weights sums → (weight sum_now : ℕ) → length weights < 16 * length sums
    → sum_now ≡ get_or sums (length weights / 16) 0 + weight
    → AreSums (weights ++ weight ∷ []) (set sums (length weights / 16) sum_now)
pushed_sums {weights = weights} {sums = sums} are weight sum_now room is = record {
  enough = omega (arith, room, length_push weights weight, length-set sums (length weights / 16) sum_now);
  from = λ block. elim (cases_lt (length weights) (16 * block)) [
    | inl past ↦ ap sum (drop-set-lt block sums (length weights / 16) sum_now (omega arith)) ∙ are.from block
        ∙ ap sum (drop_of_length-le weights {i = 16 * block} (omega (arith, past))
        ∙ sym (drop_of_length-le (weights ++ weight ∷ []) {i = 16 * block} (omega (arith, past, length_push weights weight))))
    | inr low ↦ omega (
      arith,
      are.from block,
      is,
      changed sums block (length weights / 16) sum_now (omega (arith, room)) (omega (arith, low)),
      ap sum (drop-append-le (16 * block) weights (weight ∷ []) low),
      sum_by-append (λ x. x) (drop (16 * block) weights) (weight ∷ []),
    )
  ];
}
