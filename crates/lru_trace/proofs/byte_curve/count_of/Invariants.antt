use Rattle.std.proofs.Common.{ℕ, ◌<◌, get_or}
use Rattle.lru_trace.proofs.byte_curve.count_of.Given as goal

abbrev pub invariant-loop-i : goal.invariant-loop-i
invariant-loop-i l = (j : ℕ) → j < l.i → get_or l.limits j 0 < l.need
