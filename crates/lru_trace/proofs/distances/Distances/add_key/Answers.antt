use Rattle.std.proofs.Common.{◌-◌, ◌^◌, arith}
use Rattle.std.proofs.lemmas.List.{length_push}
use Rattle.lru_trace.proofs.Logs.{wider_keys, wider_found}
use Rattle.lru_trace.proofs.distances.Distances.add_key.Goals as goal

pub invariant_of-self-2 : goal.invariant_of-self-2
invariant_of-self-2 c =
    let is = c.self.invariant in
    rw c.in_ok-push.ensures.items (record {
      room = is.room;
      few = omega (arith, length_push c.self.inside.slots.items (2 ^ 64 - 1));
      keys = wider_keys is;
      found = wider_found is;
      sums = is.sums;
      fits = is.fits;
      counted = is.counted;
    })
