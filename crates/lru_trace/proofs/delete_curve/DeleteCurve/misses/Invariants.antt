use Rattle.std.proofs.Common.{◌≡◌, ◌+◌, sum, take}
use Rattle.lru_trace.proofs.delete_curve.DeleteCurve.misses.Given as goal

abbrev pub invariant-loop-count : goal.invariant-loop-count
invariant-loop-count l = l.misses + sum (take l.count-index l.count-items) ≡ l.self.references
