use Rattle.std.proofs.Common.{◌≡◌, ◌+◌, sum, take, false}
use Rattle.std.specs.Prelude.{nat_eq}
use Rattle.lru_theory.specs.Traces.{is_in}
use Rattle.lru_trace.proofs.byte_curve.ByteCurve.misses.Given as goal

abbrev pub invariant-loop-i : goal.invariant-loop-i
invariant-loop-i l = (l.misses + sum (take l.i l.self-inside.counts.items) ≡ l.self-inside.references)
    × (is_in nat_eq l.limit (take l.i l.self-inside.limits.items) ≡ false)
