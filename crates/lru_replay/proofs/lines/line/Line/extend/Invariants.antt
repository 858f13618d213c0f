use Rattle.std.proofs.Common.{◌≡◌, ◌≤◌, ◌++◌, length, take}
use Rattle.lru_replay.specs.declared.lines.line.TheConstants.{HELD}
use Rattle.lru_replay.proofs.lines.line.Line.extend.Given as goal

abbrev pub invariant-loop-byte : goal.invariant-loop-byte
invariant-loop-byte l = record {
  growth_left : length l.self ≤ HELD;
  so_far : l.self
      ≡ take HELD (l.initial.self ++ take l.byte-index l.piece);
}
