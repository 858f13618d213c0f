-- The limiter is over its limit, and there are pairs. The evicted pairs were passed to the callback.
use Rattle.std.proofs.Common.{◌≡◌, ◌<◌, true, length}
use Rattle.lru_model.specs.MayTake.{MayTakeEach}
use Rattle.schnellru.proofs.Maps.Trims.{IsTrimmedTo}
use Rattle.schnellru.proofs.map.LruMap.evict_while_over.Given as goal

abbrev pub invariant-evictions : goal.invariant-evictions
invariant-evictions g l = record {
  some : 0 < length l.self.pairs;
  over : g.L.Limiter.rules.is_over_the_limit l.self.limiter (length l.self.pairs) ≡ true;
  callable : MayTakeEach g.L.Limiter.rules g.F.FnMut l.self.pairs l.sink;
  passed : IsTrimmedTo g.L.Limiter.rules g.F.FnMut l.fn.self l.fn.sink l.self l.sink;
}

abbrev pub decreases-evictions : goal.decreases-evictions
decreases-evictions g l = length l.self.pairs
