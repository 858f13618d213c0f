use Rattle.std.proofs.Common.{◌≡◌, ◌-◌, ◌^◌, length, ap, arith}
use Rattle.std.proofs.lemmas.List.{length_push}
use Rattle.lru_trace.proofs.Logs.{weighed_more, wider_keys, wider_found}
use Rattle.lru_trace.proofs.distances.Distances.add_weighed_key.Goals as goal

pub invariant_of-self-2 : goal.invariant_of-self-2
invariant_of-self-2 c =
    let is = c.self.invariant in
    let same : length c.self.inside.weights.items ≡ length c.self.inside.slots.items = omega (
      arith,
      c.requires,
      ap (λ r. r.keys) c.self.view_is,
      ap (λ r. length r.weights) c.self.view_is,
      c.self.inside.slots.ok.0,
    ) in
    rw (c.in_ok-push.ensures.items, c.push_reserved.ensures.items, c.in_ok-reserve.ensures.items) (record {
      room = is.room;
      few = omega (arith, length_push c.self.inside.slots.items (2 ^ 64 - 1));
      keys = wider_keys is;
      found = wider_found is;
      sums = weighed_more is c.args.weight (omega (arith, same));
      fits = is.fits;
      counted = is.counted;
    })
