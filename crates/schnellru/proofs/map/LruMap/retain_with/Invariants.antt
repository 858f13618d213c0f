-- The closure has still to be called with the newest `left` pairs, and `next` is the bucket of the oldest of them. The
-- pairs that the closure rejected were passed to the callback.
use Rattle.std.proofs.Common.{◌≡◌, length}
use denote.Param.Always.{always_mut}
use Rattle.lru_model.specs.Lists.{last_of}
use Rattle.lru_model.specs.MayTake.{MayTakeEach}
use Rattle.schnellru.proofs.Maps.Retains.{IsRetainedTo}
use Rattle.schnellru.proofs.map.LruMap.retain_with.Given as goal

abbrev pub invariant-pairs : goal.invariant-pairs
invariant-pairs g l = record {
  keep : always_mut g.F.FnMut l.keep;
  next : l.next ≡ last_of l.left l.self.table.places;
  places : length l.self.table.places ≡ length l.self.pairs;
  callable : MayTakeEach g.L.Limiter.rules g.G.FnMut l.self.pairs l.sink;
  asked : IsRetainedTo g.L.Limiter.rules g.F.FnMut g.G.FnMut l.fn.self l.fn.keep l.fn.sink l.left l.self l.keep l.sink;
}

abbrev pub decreases-pairs : goal.decreases-pairs
decreases-pairs g l = l.left
