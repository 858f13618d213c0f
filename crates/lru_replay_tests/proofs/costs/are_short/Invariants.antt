use Rattle.std.specs.Prelude.{◌≤◌, ◌+◌, length, take}
use Rattle.std.specs.List.{All}
use Rattle.std.specs.String.{string_bytes}
use Rattle.lru_replay_tests.proofs.costs.are_short.Given as goal

abbrev pub invariant-loop-text : goal.invariant-loop-text
invariant-loop-text l = All (λ text. length (string_bytes text) + 1 ≤ l.limit) (take l.text-index l.texts)
