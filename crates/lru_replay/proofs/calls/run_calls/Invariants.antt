use Rattle.std.proofs.Common.{◌≡◌, ◌≤◌, ◌++◌, length, vec_len, vec_capacity}
use Rattle.std.specs.Vec.Iter.{into_iter_items, into_iter_len}
use Rattle.lru_model.specs.State.{IsMap}
use Rattle.lru_replay.specs.CallRuns.{IsRun, CallStep}
use Rattle.lru_replay.specs.Replies.{all_said}
use Rattle.lru_replay.proofs.calls.run_calls.Given as goal

abbrev pub invariant-loop-call : goal.invariant-loop-call
invariant-loop-call g l = record {
  items : l.yielded ++ into_iter_items l.call-iterator ≡ l.fn.calls.items;
  left : into_iter_len l.call-iterator ≡ length (into_iter_items l.call-iterator);
  run : IsRun (CallStep g.L.Limiter.rules g.L.Insertion.offers g.K.PartialEq.eq
      g.S.KeyHasher.hash_of) (IsMap g.K.PartialEq.eq)
      l.fn.map l.yielded (all_said l.answers.items) l.map;
  len : vec_len l.answers ≡ length l.yielded;
  capacity : length l.fn.calls.items ≤ vec_capacity l.answers;
}
