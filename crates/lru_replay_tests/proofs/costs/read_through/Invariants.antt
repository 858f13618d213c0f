use Rattle.std.specs.Prelude.{vec_len}
use Rattle.std.specs.String.{string_eq}
use Rattle.lru_replay.specs.References.{of_cost}
use Rattle.lru_replay.proofs.ReferenceLoops.{Loops}
use Rattle.lru_replay_tests.proofs.costs.read_through.Given as goal

abbrev pub invariant-loop-text : goal.invariant-loop-text
invariant-loop-text g l = Loops (of_cost string_eq (λ key bytes. vec_len bytes) g.L.Source.size) l.initial.map l.texts
    l.text-index l.count l.map
