use Rattle.std.proofs.Common.{◌≡◌, ℕ, List, take}
use Rattle.lru_replay.specs.declared.lines.line.TheConstants.{HELD}
use Rattle.lru_replay.specs.Lines.{TakesPart}
use Rattle.lru_replay.proofs.lines.line.read_line.Given as goal

abbrev pub invariant-loop : goal.invariant-loop
invariant-loop g l = (bytes : List ℕ) × TakesPart (g.R.Read.remaining l.initial.reader)
    (g.R.Read.remaining l.reader) bytes × (l.line ≡ take HELD bytes)
