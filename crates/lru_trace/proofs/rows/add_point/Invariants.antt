use Rattle.std.proofs.Common.{◌≡◌, ◌++◌, take, drop}
use Rattle.lru_trace.specs.Rows.{with_size}
use Rattle.lru_trace.proofs.rows.add_point.Given as goal

abbrev pub invariant-loop-at : goal.invariant-loop-at
invariant-loop-at l = (l.points.items ≡ l.initial.points.items)
    × (with_size l.points.items l.size ≡ take l.at l.points.items ++ with_size (drop l.at l.points.items) l.size)
