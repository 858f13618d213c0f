use Rattle.std.proofs.Common.{arith}
use Rattle.schnellru.proofs.map.LruMap.iter_mut.Goals as goal

pub invariant_of-result : goal.invariant_of-result
invariant_of-result g c = record {
  within = omega (arith, c.len-end.ensures.len, c.ends-front.ensures.places);
  first = c.ends-front.ensures.newest;
  last = rw c.len-end.ensures.len c.ends-front.ensures.oldest;
}
