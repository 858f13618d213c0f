use Rattle.std.proofs.Common.{◌≤◌, ◌+◌}
use Rattle.lru_trace.specs.Curves.{AreAlike, references_of}
use Rattle.lru_trace.proofs.ReadLines.{ReadSoFar}
use Rattle.lru_trace.proofs.lines.read_keys.Given as goal

abbrev pub invariant-loop-lines : goal.invariant-loop-lines
invariant-loop-lines g l = (l.others.malformed ≤ l.lines) × (l.others.skipped ≤ l.lines) × (l.others.deleted + l.others.malformed ≤ l.lines) × (references_of l.curve ≤ l.lines)
    × AreAlike l.initial.curve l.curve
    × ReadSoFar (g.R.Read.remaining l.initial.reader) (g.R.Read.remaining l.reader) l.fn.options l.curve l.lines l.others
