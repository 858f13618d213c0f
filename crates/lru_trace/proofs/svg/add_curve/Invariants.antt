use Rattle.std.proofs.Common.{◌≡◌, ◌++◌, take, flat_map}
use Rattle.lru_trace.specs.Svg.{point_text}
use Rattle.lru_trace.proofs.svg.add_curve.Given as goal

abbrev pub invariant-loop-row : goal.invariant-loop-row
invariant-loop-row l =
    l.svg.items ≡ l.initial.svg.items ++ flat_map (point_text l.octaves l.policy) (take l.row-index l.rows)
