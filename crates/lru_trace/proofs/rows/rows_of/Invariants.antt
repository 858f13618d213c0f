use Rattle.std.proofs.Common.{◌≡◌, ℕ, List, take, map}
use Rattle.std.specs.Prelude.{is_some}
use Rattle.std.specs.Map.{keys_of}
use Rattle.lru_trace.specs.Curves.{IsCurveOf, measure_in}
use Rattle.lru_trace.specs.Rows.{row_of}
use Rattle.lru_trace.specs.Times.{KnowsRest}
use Rattle.lru_trace.proofs.rows.rows_of.Given as goal

abbrev pub invariant-loop-size : goal.invariant-loop-size
invariant-loop-size l = (warm trace : List (List ℕ × ℕ)) → IsCurveOf warm trace l.curve
    → KnowsRest (keys_of trace) l.best → l.rows.items ≡ map (row_of (measure_in l.curve) warm trace l.bits l.expected (is_some l.best)) (take l.size-index l.sizes)
