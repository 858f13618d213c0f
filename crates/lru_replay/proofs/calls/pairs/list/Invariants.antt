use Rattle.std.proofs.Common.{◌≡◌, ◌++◌, ◌+◌, ◌≤◌, length, vec_len, vec_capacity}
use Rattle.lru_replay.proofs.calls.pairs.list.Given as goal

abbrev pub invariant-loop-key : goal.invariant-loop-key
invariant-loop-key g l = record {
  items : l.pairs.items ++ l.key-iterator ≡ l.fn.map.pairs;
  len : vec_len l.pairs + length l.key-iterator ≡ length l.fn.map.pairs;
  capacity : length l.fn.map.pairs ≤ vec_capacity l.pairs;
}
