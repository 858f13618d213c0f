use Rattle.std.proofs.Common.{take}
use Rattle.lru_replay.specs.Lines.{Lacks}
use Rattle.lru_replay.proofs.lines.bytes.index_of.Given as goal

abbrev pub invariant-loop-i : goal.invariant-loop-i
invariant-loop-i l = Lacks l.byte (take l.i l.bytes)
