use Rattle.std.proofs.Common.{length}
use Rattle.lru_trace.proofs.NamesChains.{IsWalk}
use Rattle.lru_trace.proofs.names.Names.find.Given as goal

abbrev pub invariant-loop-link : goal.invariant-loop-link
invariant-loop-link l = IsWalk l.self-inside.texts l.text (length l.self-inside.newest.items) l.link

abbrev pub decreases-loop-link : goal.decreases-loop-link
decreases-loop-link l = l.link
