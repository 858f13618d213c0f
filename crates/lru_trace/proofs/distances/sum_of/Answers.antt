use Rattle.std.proofs.Common.{refl, get_or, ap, ◌∙◌, arith}
use Rattle.std.specs.Prelude.{sum_by}
use Rattle.std.proofs.lemmas.List.{take_all}
use Rattle.std.proofs.lemmas.List.Sums.{sum_by_more, sum_by_more_le}
use Rattle.lru_trace.specs.Slots.{slot_weight, weight_in, weight_of}
use Rattle.lru_trace.proofs.Newest.{held_free, held_key}
use Rattle.lru_trace.proofs.distances.sum_of.Goals.{then-number, else-number}
use Rattle.lru_trace.proofs.distances.sum_of.Goals as goal

pub loop-number-init : goal.loop-number-init
loop-number-init c = refl

pub overflow_add-sum : goal.overflow_add-sum
overflow_add-sum c =
    let log = c.args.log.now in
    let weight = weight_in c.args.weights.now in
    let i = c.loop-number.number-index in
    omega (
      arith,
      c.requires,
      c.loop-number.invariant,
      sum_by_more_le (slot_weight weight) log i 0 c.loop-number-test.true,
      c.weight_in-sum.ensures,
      ap (weight_of weight) (held_key (get_or log i 0) c.if-number.true),
    )

pub loop-number-preserved : goal.loop-number-preserved
loop-number-preserved c =
    let log = c.args.log.now in
    let weight = weight_in c.args.weights.now in
    let i = c.loop-number.number-index in
    let more = sum_by_more (slot_weight weight) log i 0 c.loop-number-test.true in
    elim c.if-number.branch [
      | then-number w ↦ omega (
        arith,
        more,
        w.sum-is,
        c.loop-number.invariant,
        w.weight_in-sum.ensures,
        ap (weight_of weight) (held_key (get_or log i 0) w.if-number.true),
      )
      | else-number w ↦ omega (
        arith,
        more,
        w.sum-is,
        c.loop-number.invariant,
        ap (weight_of weight) (held_free (get_or log i 0) w.if-number.false),
      )
    ]

pub returns : goal.returns
returns c =
    c.loop-number.invariant ∙ ap (sum_by (slot_weight (weight_in c.args.weights.now)))
    (take_all c.loop-number.number-index c.args.log.now (omega arith))
