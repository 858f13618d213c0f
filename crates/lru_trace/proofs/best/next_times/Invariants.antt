use Rattle.std.proofs.Common.{◌≡◌, ◌-◌, length}
use Rattle.lru_trace.proofs.SeenTimes.{Seen}
use Rattle.lru_trace.proofs.best.next_times.Given as goal

abbrev pub invariant-loop-done : goal.invariant-loop-done
invariant-loop-done l = (l.end ≡ length l.numbers)
    × Seen l.numbers l.nexts.items l.seen.items (length l.initial.seen.items) (l.end - l.done)
