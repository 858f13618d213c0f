use Rattle.std.proofs.Common.{◌≡◌}
use Rattle.lru_trace.specs.Names.{AreLinked}
use Rattle.lru_trace.proofs.names.Names.grow_if_full.Given as goal

abbrev pub invariant-loop-number : goal.invariant-loop-number
invariant-loop-number l = (l.self-inside.texts ≡ l.initial.self-inside.texts)
    × AreLinked l.self-inside.texts l.number l.newest.items l.self-inside.older.items
