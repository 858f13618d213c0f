use Rattle.std.proofs.Common.{◌≡◌, ◌+◌, ◌*◌, ◌/◌, ◌^◌, ◌<◌, false, ◌∷◌, length, get_or, set, sum, sym, ap, ◌∙◌, arith, nat_eq}
use Rattle.std.specs.Prelude.{sum_by}
use Rattle.std.proofs.lemmas.List.{length-map, length-set}
use Rattle.std.proofs.lemmas.List.Sums.{sum_by-cons, sum_by-set}
use Rattle.lru_theory.specs.Traces.{is_in}
use Rattle.lru_trace.specs.Slots.{newest, live, held, weight_in}
use Rattle.lru_trace.proofs.Logs.{added_keys, added_found, added_sums, added_counted, grown, all_weights}
use Rattle.lru_trace.proofs.Newest.{newest_few, newest_push}
use Rattle.lru_trace.proofs.distances.Distances.append.Goals.{After-weight-weight}
use Rattle.lru_trace.proofs.distances.Distances.append.Goals as goal

module _ (c : After-weight-weight) where
  slot_is : c.len-slot.result ≡ length c.self.inside.log.items
  slot_is = omega (arith, c.len-slot.ensures, c.self.inside.log.ok.0)

  within : c.args.key < length c.self.inside.slots.items
  within = omega (arith, ap (λ r. r.keys) c.self.view_is, c.self.inside.slots.ok.0, c.requires.key)

  absent : is_in nat_eq c.args.key (newest (live c.self.inside.log.items)) ≡ false
  absent = ap (λ r. is_in nat_eq c.args.key r.recency) c.self.view_is ∙ c.requires.absent

  room : length c.self.inside.log.items < 16 * length c.self.inside.blocks
  room = omega (arith, ap (λ r. r.room) c.self.view_is, c.requires.room, c.self.inside.log.ok.0)

  weight : c.weight-weight.result ≡ weight_in c.self.inside.weights.items c.args.key
  weight = c.weight-weight.ensures ∙ ap (λ r. weight_in r.weights c.args.key) (sym c.self.view_is)

  fits : sum c.self.inside.blocks + weight_in c.self.inside.weights.items c.args.key < 2 ^ 64
  fits = omega (
    arith,
    c.requires.fits,
    ap (λ r. sum_by (weight_in r.weights) (c.args.key ∷ r.recency)) c.self.view_is,
    sum_by-cons (weight_in c.self.inside.weights.items) c.args.key (newest (live c.self.inside.log.items)),
    all_weights c.self.invariant,
  )

pub add-requires-clause-fits : goal.add-requires-clause-fits
add-requires-clause-fits c =
    let at = (goal.at.add-requires-clause-fits c).After-weight-weight in
    omega (arith, fits at, weight at)

pub overflow_add-self : goal.overflow_add-self
overflow_add-self c =
    let log = c.self.inside.log in
    omega (
      arith,
      c.self.invariant.counted,
      newest_few (live log.items),
      length-map log.items held,
      log.ok.0,
      log.small,
    )

pub invariant_of-self : goal.invariant_of-self
invariant_of-self c =
    let at = (goal.at.invariant_of-self c).After-weight-weight in
    let is = c.self.invariant in
    let key = c.args.key in
    let blocks = c.self.inside.blocks in
    let now : c.add.new.self ≡ set blocks (length c.self.inside.log.items / 16)
    (get_or blocks (length c.self.inside.log.items / 16) 0 + weight_in c.self.inside.weights.items key) =
    c.add.ensures ∙ (λ i. set blocks (slot_is at i / 16) (get_or blocks (slot_is at i / 16) 0 + weight at i)) in
    let sums = added_sums is key (within at) (absent at) (room at) in
    let more = length-set blocks (length c.self.inside.log.items / 16)
    (get_or blocks (length c.self.inside.log.items / 16) 0 + weight_in c.self.inside.weights.items key) in
    let pushed = c.push_reserved.ensures.items in
    rw (now, slot_is at) (record {
      room = omega (arith, more, is.room, c.push_reserved.ensures.capacity);
      few = omega (arith, is.few, length-set c.self.inside.slots.items key (length c.self.inside.log.items));
      keys = rw pushed (added_keys is key (within at) (absent at));
      found = rw pushed (added_found is key (within at) (absent at));
      sums = rw pushed sums;
      fits = omega (
        arith,
        fits at,
        sum_by-set (λ x. x) blocks (length c.self.inside.log.items / 16)
            (get_or blocks (length c.self.inside.log.items / 16) 0 + weight_in c.self.inside.weights.items key) 0
            (omega (arith, room at)),
      );
      counted = rw pushed (added_counted is key (within at) (absent at));
    })

pub returns-clause-recency : goal.returns-clause-recency
returns-clause-recency c =
    let at = (goal.at.returns-clause-recency c).After-weight-weight in
    rw (c.push_reserved.ensures.items, grown c.self.invariant c.args.key (within at) (absent at))
    (newest_push (live c.self.inside.log.items) c.args.key ∙ ap (λ r. c.args.key ∷ r.recency) c.self.view_is)
