use Rattle.lru_c.proofs.FilledSlots.{FillsSoFar}
use Rattle.lru_c.proofs.calls.copy_entries.Given as goal

abbrev pub invariant-loop-count : goal.invariant-loop-count
invariant-loop-count l = FillsSoFar l.fn.map.pairs l.fn.entries l.count l.rest l.entries
