use Rattle.std.proofs.Common.{◌≡◌, ℕ, List, ◌++◌}
use Rattle.std.specs.Io.KnownBytes.{Appends}
use Rattle.lru_replay.specs.Output.{rest_text}
use Rattle.lru_replay.proofs.lines.pairs.write_rest.Given as goal

abbrev pub invariant-loop-key : goal.invariant-loop-key
invariant-loop-key g l = (done : List ℕ) × (rest_text l.fn.pairs ≡ done ++ rest_text l.key-iterator)
    × Appends (g.W.Write.contents l.initial.writer) (g.W.Write.contents l.writer) done
