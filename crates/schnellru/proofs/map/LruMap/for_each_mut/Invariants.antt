-- The first `at` pairs have been written, and `next` is the bucket of the pair after them.
use Rattle.std.proofs.Common.{◌≡◌, ◌-◌, length}
use Rattle.std.specs.Prelude.{slice_get}
use denote.Param.Always.{always_mut}
use Rattle.schnellru.proofs.Maps.WrittenPairs.{IsWrittenTo}
use Rattle.schnellru.proofs.map.LruMap.for_each_mut.Given as goal

abbrev pub invariant-pairs : goal.invariant-pairs
invariant-pairs g l = record {
  callable : always_mut g.F.FnMut l.f;
  next : l.next ≡ slice_get l.self.table.places l.at;
  written : IsWrittenTo g.F.FnMut l.fn.self.pairs l.fn.f l.at l.self.pairs l.f;
  state : l.self ≡ record l.fn.self { pairs = l.self.pairs };
  places : length l.self.table.places ≡ length l.self.pairs;
  many : length l.self.pairs ≡ length l.fn.self.pairs;
}

abbrev pub decreases-pairs : goal.decreases-pairs
decreases-pairs g l = length l.fn.self.pairs - l.at
