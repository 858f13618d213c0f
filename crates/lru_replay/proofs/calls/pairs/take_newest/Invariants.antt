use Rattle.std.proofs.Common.{◌≡◌, ◌++◌, ◌+◌, ◌≤◌, vec_len, vec_capacity}
use Rattle.lru_model.specs.State.{contents, Leaves}
use Rattle.lru_model.specs.Drains.{pops_first, newest_given}
use Rattle.lru_replay.proofs.calls.pairs.take_newest.Given as goal

abbrev pub invariant-loop : goal.invariant-loop
invariant-loop g l = record {
  items : l.pairs.items ≡ l.fn.pairs.items ++ newest_given g.L.Limiter.rules l.counter (contents l.fn.map);
  left : Leaves l.fn.map (pops_first g.L.Limiter.rules l.counter (contents l.fn.map)) l.map;
  len : vec_len l.pairs ≤ vec_len l.fn.pairs + l.counter;
  capacity : vec_capacity l.pairs ≡ vec_capacity l.fn.pairs;
}
