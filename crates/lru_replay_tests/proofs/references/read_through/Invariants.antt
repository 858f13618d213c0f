use Rattle.std.specs.String.{string_eq}
use Rattle.lru_replay.specs.References.{of_length}
use Rattle.lru_replay.proofs.ReferenceLoops.{Loops}
use Rattle.lru_replay_tests.proofs.references.read_through.Given as goal

abbrev pub invariant-loop-text : goal.invariant-loop-text
invariant-loop-text g l = Loops (of_length string_eq) l.initial.map l.texts l.text-index l.count l.map
