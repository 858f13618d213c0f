use Rattle.std.proofs.Common.{◌≡◌, take}
use Rattle.std.specs.Prelude.{sum_by}
use Rattle.lru_trace.specs.Slots.{slot_weight, weight_in}
use Rattle.lru_trace.proofs.distances.sum_of.Given as goal

abbrev pub invariant-loop-number : goal.invariant-loop-number
invariant-loop-number l = l.sum ≡ sum_by (slot_weight (weight_in l.fn.weights)) (take l.number-index l.fn.log)
