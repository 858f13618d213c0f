use Rattle.std.proofs.Common.{◌≡◌, ◌++◌, take, drop}
use Rattle.lru_trace.specs.Lines.{before}
use Rattle.lru_trace.proofs.columns.before.Given as goal

abbrev pub invariant-loop-at : goal.invariant-loop-at
invariant-loop-at l = before l.separator l.line ≡ take l.at l.line ++ before l.separator (drop l.at l.line)
