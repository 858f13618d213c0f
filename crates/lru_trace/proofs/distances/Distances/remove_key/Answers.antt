use Rattle.std.proofs.Common.{◌≡◌, ◌-◌, ◌+◌, false, length, take, ap, ◌∙◌, arith}
use Rattle.std.specs.Prelude.{nat_eq}
use Rattle.std.proofs.lemmas.List.{length-take}
use Rattle.lru_theory.specs.Traces.{is_in}
use Rattle.lru_trace.specs.Slots.{newest, live}
use Rattle.lru_trace.proofs.Logs.{fewer_keys, fewer_found, fewer_sums}
use Rattle.lru_trace.proofs.distances.Distances.remove_key.Goals as goal

pub invariant_of-self : goal.invariant_of-self
invariant_of-self c =
    let is = c.self.invariant in
    let last = c.args.self.now.keys - 1 in
    let slots = c.self.inside.slots in
    let keys = ap (λ r. r.keys) c.self.view_is in
    let some : length slots.items ≡ last + 1 = omega (arith, keys, slots.ok.0, c.requires.some) in
    let absent : is_in nat_eq last (newest (live c.self.inside.log.items)) ≡ false =
    ap (λ r. is_in nat_eq last r.recency) c.self.view_is ∙ c.requires.absent in
    let kept : c.pop.new.self.items ≡ take last slots.items =
    c.pop.ensures.rest ∙ ap (λ n. take (n - 1) slots.items) keys in
    let left : c.len.result ≡ last = omega (
      arith,
      c.len.ensures,
      keys,
      c.requires.some,
      ap length kept,
      length-take last slots.items,
      some,
      c.pop.new.self.ok.0,
    ) in
    let weights : c.truncate.new.self.items ≡ take last c.self.inside.weights.items =
    c.truncate.ensures.items ∙ ap (λ n. take n c.self.inside.weights.items) left in
    rw (kept, weights) (record {
      room = is.room;
      few = omega (arith, is.few, length-take last slots.items);
      keys = fewer_keys is last some absent;
      found = fewer_found is last some absent;
      sums = fewer_sums is last some absent;
      fits = is.fits;
      counted = is.counted;
    })
