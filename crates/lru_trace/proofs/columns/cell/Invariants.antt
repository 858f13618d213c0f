use Rattle.std.proofs.Common.{◌≡◌, ◌-◌}
use Rattle.lru_trace.specs.Lines.{cell}
use Rattle.lru_trace.proofs.columns.cell.Given as goal

abbrev pub invariant-loop : goal.invariant-loop
invariant-loop l = cell l.column.separator l.column.index l.line
    ≡ cell l.column.separator (l.column.index - l.counter) l.rest
