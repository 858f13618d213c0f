use Rattle.std.proofs.Common.{◌≡◌, ℕ, List, ◌++◌, drop}
use Rattle.std.specs.Io.KnownBytes.{Appends}
use Rattle.lru_replay.specs.Output.{rest_text}
use Rattle.lru_replay.proofs.lines.output.write_passed.Given as goal

abbrev pub invariant-loop-pair : goal.invariant-loop-pair
invariant-loop-pair g l = (done : List ℕ) × (rest_text l.fn.pairs ≡ done ++ rest_text (drop l.pair-index l.fn.pairs))
    × Appends (g.W.Write.contents l.initial.writer) (g.W.Write.contents l.writer) done
