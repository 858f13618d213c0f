use Rattle.std.proofs.Common.{◌≡◌, drop}
use Rattle.std.specs.List.{fold}
use Rattle.lru_trace.specs.Rows.{with_size}
use Rattle.lru_trace.proofs.rows.add_points.Given as goal

abbrev pub invariant-loop-size : goal.invariant-loop-size
invariant-loop-size l =
    fold with_size l.initial.points.items l.sizes ≡ fold with_size l.points.items (drop l.size-index l.sizes)
