-- The table is sound, and no shrink has rehashed an entry.
use Rattle.std.proofs.Common.{◌≡◌}
use Rattle.lru_model.specs.State.{IsSized}
use Rattle.schnellru_tests.proofs.callers.count_all.Given as goal

abbrev pub invariant-loop-text : goal.invariant-loop-text
invariant-loop-text l = record {
  sized : IsSized l.map;
  shrunk : l.map.counts.shrunk ≡ 0;
}
