use Rattle.std.proofs.Common.{◌≡◌, drop}
use Rattle.lru_trace.specs.Lines.{behind}
use Rattle.lru_trace.proofs.columns.behind.Given as goal

abbrev pub invariant-loop-at : goal.invariant-loop-at
invariant-loop-at l = behind l.separator l.line ≡ behind l.separator (drop l.at l.line)
