use Rattle.std.proofs.Common.{◌≡◌, ◌-◌, ◌<◌, ◌++◌}
use Rattle.std.specs.List.{All}
use Rattle.lru_trace.specs.Rows.{powers}
use Rattle.lru_trace.proofs.rows.powers.Given as goal

abbrev pub invariant-loop-level : goal.invariant-loop-level
invariant-loop-level l = (powers l.most 64 0 ≡ l.powers.items ++ powers l.most (64 - l.level) l.level)
    × All (λ power. 0 < power) l.powers.items
