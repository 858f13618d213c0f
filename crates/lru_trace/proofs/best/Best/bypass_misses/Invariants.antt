use Rattle.std.proofs.Common.{◌≡◌, ◌≤◌, ℕ, List, length}
use Rattle.std.specs.Str.{bytes_eq}
use Rattle.lru_theory.specs.Best.{bypass_refer}
use Rattle.lru_trace.specs.Times.{next_times}
use Rattle.lru_trace.proofs.Times.{Missed}
use Rattle.lru_trace.proofs.best.Best.bypass_misses.Given as goal

abbrev pub invariant-loop-now : goal.invariant-loop-now
invariant-loop-now l = (length l.times.keys ≤ l.places) × (l.misses ≤ l.now-counter)
    × ((trace : List (List ℕ)) → l.self ≡ next_times bytes_eq 0 trace
    → Missed bytes_eq (bypass_refer bytes_eq l.places) trace l.now-counter l.misses l.times.keys)
