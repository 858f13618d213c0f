use Rattle.std.proofs.Common.{◌≡◌, ℕ, not, List}
use Rattle.lru_model.specs.Lists.{is_empty}
use Rattle.lru_model.specs.State.{contents, Leaves}
use Rattle.lru_model.specs.Drains.{pops_first, newest_given}
use Rattle.lru_replay.specs.Output.{Writes}
use Rattle.lru_replay.proofs.DrainedPairs.{spaced}
use Rattle.lru_replay.proofs.lines.drain.write_drain.Given as goal

abbrev pub invariant-loop : goal.invariant-loop
invariant-loop g l = (pairs : List (ℕ × ℕ)) × (pairs ≡ newest_given g.L.Limiter.rules l.counter (contents l.fn.map))
    × Leaves l.fn.map (pops_first g.L.Limiter.rules l.counter (contents l.fn.map)) l.map
    × (l.any ≡ not (is_empty pairs))
    × Writes (g.W.Write.contents l.fn.writer) (g.W.Write.contents l.writer) l.written (spaced pairs)
