-- The table is sound, and its insertions and the potential are at most three for each text.
use Rattle.std.proofs.Common.{◌+◌, ◌*◌, ◌≤◌}
use Rattle.lru_model.specs.State.{IsSized, potential}
use Rattle.schnellru_tests.proofs.callers.keep_all.Given as goal

abbrev pub invariant-loop-text : goal.invariant-loop-text
invariant-loop-text l = record {
  sized : IsSized l.map;
  insertions : l.map.counts.insertions + potential l.map ≤ 3 * l.text-index;
}
