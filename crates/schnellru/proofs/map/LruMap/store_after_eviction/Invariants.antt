-- Some of the oldest pairs were evicted and passed to the callback. The table has at least half of the pairs that it
-- may hold, and no bucket can take the new pair yet.
use Rattle.std.proofs.Common.{◌≡◌, ℕ, ◌/◌, ◌∷◌, length}
use Rattle.group_table.specs.Sizes.{full_capacity}
use Rattle.lru_model.specs.State.{buckets, contents, Leaves, pops}
use Rattle.lru_model.specs.Place.{OldestEvicted}
use Rattle.lru_model.specs.MayTake.{MayTakeEach}
use Rattle.schnellru.specs.Inside.Passing.{Passes}
use Rattle.lru_model.proofs.States.Placements.{IsStuck}
use Rattle.schnellru.proofs.map.LruMap.store_after_eviction.Given as goal

abbrev pub invariant-evictions : goal.invariant-evictions
invariant-evictions g l = record {
  callable : MayTakeEach g.L.Limiter.rules g.F.FnMut (l.pair ∷ l.self.pairs) l.sink;
  n : ℕ;
  gone : OldestEvicted g.L.Limiter.rules l.hash n l.fn.self l.self;
  passed : Passes g.F.FnMut g.L.Limiter.rules l.fn.sink l.sink l.fn.self l.self (λ rules.
      OldestEvicted rules l.hash n);
  leaves : Leaves l.fn.self (pops g.L.Limiter.rules n (contents l.fn.self)) l.self;
  stuck : IsStuck l.hash (full_capacity (buckets l.fn.self) / 2) l.self.table.states (length l.self.pairs);
  same_pair : l.pair ≡ l.fn.pair;
}

abbrev pub decreases-evictions : goal.decreases-evictions
decreases-evictions g l = length l.self.pairs
