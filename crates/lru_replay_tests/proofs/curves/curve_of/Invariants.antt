use Rattle.std.specs.Prelude.{[], map, take}
use Rattle.std.specs.String.{string_bytes}
use Rattle.lru_trace.specs.Counted.{IsOf}
use Rattle.lru_replay_tests.proofs.curves.curve_of.Given as goal

abbrev pub invariant-loop-text : goal.invariant-loop-text
invariant-loop-text l = IsOf [] (map string_bytes (take l.text-index l.texts)) l.curve
