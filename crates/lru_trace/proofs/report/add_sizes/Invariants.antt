use Rattle.std.proofs.Common.{◌≡◌, ◌++◌, take, flat_map}
use Rattle.lru_trace.specs.Report.{size_text}
use Rattle.lru_trace.proofs.report.add_sizes.Given as goal

abbrev pub invariant-loop-row : goal.invariant-loop-row
invariant-loop-row l = l.report.items ≡ l.initial.report.items ++ flat_map (size_text l.measure) (take l.row-index l.rows)
