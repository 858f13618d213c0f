use Rattle.std.proofs.Common.{◌≡◌, ℕ, ◌+◌, ◌-◌, ◌*◌, ◌/◌, ◌<◌, ◌≤◌, List, length, sum, take, drop, min, sym, ap, ◌∙◌, arith}
use Rattle.std.specs.Prelude.{sum_by}
use Rattle.std.specs.List.{take-map, drop-map}
use Rattle.std.proofs.lemmas.List.{length-map}
use Rattle.std.proofs.lemmas.List.Sums.{sum-map, sum_by-take-le}
use Rattle.lru_trace.specs.Slots.{slot_weight, weight_in, weights_of}
use Rattle.lru_trace.proofs.Blocks.{near_and_far, fewer_from}
use Rattle.lru_trace.proofs.distances.weight_behind.Goals.{After-min-end, After-weight_behind}
use Rattle.lru_trace.proofs.distances.weight_behind.Goals as goal

module _ (c : After-min-end) where
  abbrev weight : ℕ → ℕ
  weight = slot_weight (weight_in c.args.weights.now)

  abbrev ws : List ℕ
  ws = weights_of (weight_in c.args.weights.now) c.args.log.now

  within : c.args.slot < length ws
  within = omega (arith, c.requires.within, length-map c.args.log.now weight)

  near : sum (take (c.min-end.result - (c.args.slot + 1)) (drop (c.args.slot + 1) ws))
      ≡ sum_by weight (take (c.min-end.result - (c.args.slot + 1)) (drop (c.args.slot + 1) c.args.log.now))
  near =
      let part = drop (c.args.slot + 1) c.args.log.now in
      let n = c.min-end.result - (c.args.slot + 1) in
      ap sum (ap (take n) (drop-map weight (c.args.slot + 1) c.args.log.now) ∙ take-map weight n part)
      ∙ sum-map weight (take n part)

  few : sum (drop (c.args.slot + 1) ws) ≤ sum c.args.blocks.now
  few = omega (arith, c.requires.sums.from 0, fewer_from ws 0 (c.args.slot + 1) (omega arith))

pub sum_of-requires : goal.sum_of-requires
sum_of-requires c =
    let at = (goal.at.sum_of-requires c).After-min-end in
    omega (
      arith,
      near at,
      few at,
      c.requires.fits,
      sum_by-take-le (λ x. x) (drop (c.args.slot + 1) (ws at)) (c.min-end.result - (c.args.slot + 1)),
    )

both : (c : After-weight_behind)
    → c.sum_of.result + c.weight_behind.result
    ≡ sum (drop (c.args.slot + 1) (weights_of (weight_in c.args.weights.now) c.args.log.now))
both c =
    let at = (goal.at.After-weight_behind c).After-min-end in
    let end = c.min-end.ensures
    ∙ ap (min (16 * (c.args.slot / 16 + 1))) (sym (length-map c.args.log.now (weight at))) in
    omega (
      arith,
      c.sum_of.ensures,
      c.weight_behind.ensures,
      near at,
      near_and_far c.requires.sums c.args.slot (within at) c.min-end.result end,
    )

pub overflow_add-result : goal.overflow_add-result
overflow_add-result c =
    omega (arith, both (goal.at.overflow_add-result c).After-weight_behind, few (goal.at.overflow_add-result c).After-min-end, c.requires.fits)

pub returns : goal.returns
returns c = both c
