use Rattle.std.proofs.Common.{◌≡◌, ◌++◌, replicate}
use Rattle.lru_trace.proofs.report.add_copies.Given as goal

abbrev pub invariant-loop : goal.invariant-loop
invariant-loop l = l.report.items ≡ l.initial.report.items ++ replicate l.counter l.byte
