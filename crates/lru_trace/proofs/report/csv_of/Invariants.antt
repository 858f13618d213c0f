use Rattle.std.proofs.Common.{◌≡◌, ◌++◌, take, flat_map}
use Rattle.lru_trace.specs.Report.{csv_line}
use Rattle.lru_trace.proofs.report.csv_of.Given as goal

abbrev pub invariant-loop-row : goal.invariant-loop-row
invariant-loop-row l = l.csv.items ≡ l.initial.csv.items ++ flat_map csv_line (take l.row-index l.rows)
