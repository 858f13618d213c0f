-- The first `walk_start` values are 0.
use Rattle.std.proofs.Common.{◌≡◌, ◌-◌, length}
use Rattle.schnellru.specs.Walks.{walk_map, walk_lender, walk_start, walk_end}
use Rattle.schnellru_tests.proofs.ResetPairs.{reset_first}
use Rattle.schnellru_tests.proofs.callers.reset.Given as goal

abbrev pub invariant-pairs : goal.invariant-pairs
invariant-pairs l = record {
  map : walk_map l.walk ≡ record l.fn.map { pairs = reset_first (walk_start l.walk) l.fn.map.pairs };
  same_reference : walk_lender l.walk ≡ walk_lender l.initial.walk;
  end : walk_end l.walk ≡ length l.fn.map.pairs;
}

abbrev pub decreases-pairs : goal.decreases-pairs
decreases-pairs l = walk_end l.walk - walk_start l.walk
