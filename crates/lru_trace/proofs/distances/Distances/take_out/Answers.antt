use Rattle.std.proofs.Common.{◌≡◌, ◌+◌, ◌-◌, ◌*◌, ◌/◌, ◌^◌, ◌<◌, false, Some, None, length, get_or, set, sum, drop}
use Rattle.std.proofs.Common.{refl, sym, ap, ◌∙◌, arith, nat_eq}
use Rattle.std.specs.Prelude.{vec_len}
use Rattle.std.proofs.lemmas.Cmp.{nat_eq_equiv}
use Rattle.std.proofs.lemmas.List.{length-set, get_or_read}
use Rattle.std.proofs.lemmas.List.Sums.{sum_by-set}
use Rattle.std.specs.Set.{remove_key}
use Rattle.lru_theory.specs.Traces.{is_in}
use Rattle.lru_theory.proofs.Nexts.{without_absent}
use Rattle.lru_trace.specs.Slots.{position, newest, live, weight_in, weights_of, HasSlot}
use Rattle.lru_trace.proofs.Logs.{unreferenced, slot_in, position_is, taken_out, freed_keys, freed_found, freed_sums}
use Rattle.lru_trace.proofs.Logs.{freed_counted, freed_absent, enough, slot_block}
use Rattle.lru_trace.proofs.distances.Distances.take_out.Goals.{After-index-slot, Then-slot, Else-slot}
use Rattle.lru_trace.proofs.distances.Distances.take_out.Goals.{After-weight-weight, After-subtract}
use Rattle.lru_trace.proofs.distances.Distances.take_out.Goals as goal

inside : (c : After-index-slot) → c.args.key < length c.self.inside.slots.items
inside c = omega (arith, ap (λ r. r.keys) c.self.view_is, c.self.inside.slots.ok.0, c.requires)

read : (c : After-index-slot) → c.index-slot.result.now ≡ get_or c.self.inside.slots.items c.args.key 0
read c = get_or_read c.self.inside.slots.items c.args.key c.index-slot.result.now (inside c) c.index-slot.ensures 0

no_slot : (c : Then-slot) → is_in nat_eq c.args.key (newest (live c.self.inside.log.items)) ≡ false
no_slot c = unreferenced c.self.invariant c.args.key (sym (read (goal.at.Then-slot c).After-index-slot)
    ∙ c.if-slot.true)

at_slot : (c : Else-slot) → HasSlot c.self.inside.slots.items c.args.key c.index-slot.result.now
at_slot c =
    let at = (goal.at.Else-slot c).After-index-slot in
    record { within = inside at; is = sym (read at); some = c.if-slot.false }

within : (c : Else-slot) → c.index-slot.result.now < length c.self.inside.log.items
within c = slot_in c.self.invariant c.args.key c.index-slot.result.now (at_slot c)

pub returns-then-slot-clause-result : goal.returns-then-slot-clause-result
returns-then-slot-clause-result c =
    let none = no_slot (goal.at.returns-then-slot-clause-result c).Then-slot in
    let here : None ≡ position (weight_in c.self.inside.weights.items) c.args.key (newest
    (live c.self.inside.log.items)) = rw none refl in
    here ∙ ap (λ r. position (weight_in r.weights) c.args.key r.recency) c.self.view_is

pub returns-then-slot-clause-after : goal.returns-then-slot-clause-after
returns-then-slot-clause-after c =
    let none = no_slot (goal.at.returns-then-slot-clause-after c).Then-slot in
    let same : c.args.self.now.recency ≡ remove_key (nat_eq c.args.key) c.args.self.now.recency =
    ap (λ r. r.recency) (sym c.self.view_is)
    ∙ sym (without_absent nat_eq_equiv c.args.key (newest (live c.self.inside.log.items)) none)
    ∙ ap (λ r. remove_key (nat_eq c.args.key) r.recency) c.self.view_is in
    ap (λ xs. record {
      recency = xs;
      keys = c.args.self.now.keys;
      weights = c.args.self.now.weights;
      room = c.args.self.now.room;
    }) same

pub returns-then-slot-clause-absent : goal.returns-then-slot-clause-absent
returns-then-slot-clause-absent c =
    ap (λ r. is_in nat_eq c.args.key r.recency) (sym c.self.view_is)
    ∙ no_slot (goal.at.returns-then-slot-clause-absent c).Then-slot

pub weight_behind-behind-requires-clause-within : goal.weight_behind-behind-requires-clause-within
weight_behind-behind-requires-clause-within c =
    rw c.deref.ensures.value (within (goal.at.weight_behind-behind-requires-clause-within c).Else-slot)

pub weight_behind-behind-requires-clause-sums : goal.weight_behind-behind-requires-clause-sums
weight_behind-behind-requires-clause-sums c = rw (c.deref.ensures.value, c.deref-2.ensures.value) c.self.invariant.sums

pub weight_behind-behind-requires-clause-fits : goal.weight_behind-behind-requires-clause-fits
weight_behind-behind-requires-clause-fits c = c.self.invariant.fits

weighed : (c : After-weight-weight) → weight_in c.self.inside.weights.items c.args.key ≡ c.weight-weight.result
weighed c = ap (λ r. weight_in r.weights c.args.key) c.self.view_is ∙ sym c.weight-weight.ensures

pub subtract-requires-clause-within : goal.subtract-requires-clause-within
subtract-requires-clause-within c =
    slot_block c.self.invariant c.args.key c.index-slot.result.now
    (at_slot (goal.at.subtract-requires-clause-within c).Else-slot)

pub subtract-requires-clause-enough : goal.subtract-requires-clause-enough
subtract-requires-clause-enough c =
    omega (
      arith,
      weighed (goal.at.subtract-requires-clause-enough c).After-weight-weight,
      enough c.self.invariant c.args.key c.index-slot.result.now
          (at_slot (goal.at.subtract-requires-clause-enough c).Else-slot),
    )

pub index_mut-requires : goal.index_mut-requires
index_mut-requires c = omega (arith, within (goal.at.index_mut-requires c).Else-slot, c.self.inside.log.ok.0)

pub overflow_sub-self : goal.overflow_sub-self
overflow_sub-self c =
    omega (
      arith,
      freed_counted c.self.invariant c.args.key c.index-slot.result.now
          (at_slot (goal.at.overflow_sub-self c).Else-slot),
    )

lighter : (c : After-subtract) → c.subtract.new.self ≡ set c.self.inside.blocks (c.index-slot.result.now / 16)
    (get_or c.self.inside.blocks (c.index-slot.result.now / 16) 0 - weight_in c.self.inside.weights.items c.args.key)
lighter c = c.subtract.ensures ∙ ap (λ w. set c.self.inside.blocks (c.index-slot.result.now / 16)
    (get_or c.self.inside.blocks (c.index-slot.result.now / 16) 0 - w))
    (sym (weighed (goal.at.After-subtract c).After-weight-weight))

pub invariant_of-self : goal.invariant_of-self
invariant_of-self c =
    let at = at_slot (goal.at.invariant_of-self c).Else-slot in
    let is = c.self.invariant in
    let key = c.args.key in
    let slot = c.index-slot.result.now in
    let blocks = c.self.inside.blocks in
    let left = get_or blocks (slot / 16) 0 - weight_in c.self.inside.weights.items key in
    let len = length-set blocks (slot / 16) left in
    rw (lighter (goal.at.invariant_of-self c).After-subtract) (record {
      room = omega (arith, len, is.room);
      few = omega (arith, is.few, length-set c.self.inside.slots.items key (2 ^ 64 - 1));
      keys = freed_keys is key slot at;
      found = freed_found is key slot at;
      sums = freed_sums is key slot at;
      fits = omega (
        arith,
        is.fits,
        sum_by-set (λ x. x) blocks (slot / 16) left 0 (slot_block is key slot at),
      );
      counted = omega (arith, freed_counted is key slot at);
    })

pub returns-clause-result : goal.returns-clause-result
returns-clause-result c =
    ap Some (c.weight_behind-behind.ensures ∙ (λ i. sum (drop (c.index-slot.result.now + 1)
    (weights_of (weight_in (c.deref-2.ensures.value i)) (c.deref.ensures.value i)))))
    ∙ position_is c.self.invariant c.args.key c.index-slot.result.now (at_slot
    (goal.at.returns-clause-result c).Else-slot)
    ∙ ap (λ r. position (weight_in r.weights) c.args.key r.recency) c.self.view_is

pub returns-clause-after : goal.returns-clause-after
returns-clause-after c =
    let inside = c.self.inside in
    let out = taken_out c.self.invariant c.args.key c.index-slot.result.now (at_slot
    (goal.at.returns-clause-after c).Else-slot)
    ∙ ap (λ r. remove_key (nat_eq c.args.key) r.recency) c.self.view_is in
    let len : length c.subtract.new.self ≡ length inside.blocks =
    ap length (lighter (goal.at.returns-clause-after c).After-subtract)
    ∙ length-set inside.blocks (c.index-slot.result.now / 16) _ in
    λ i. record {
      recency = out i;
      keys = ap (λ r. r.keys) c.self.view_is i;
      weights = ap (λ r. r.weights) c.self.view_is i;
      room = (ap (λ n. 16 * n - vec_len inside.log) len ∙ ap (λ r. r.room) c.self.view_is) i;
    }

pub returns-clause-absent : goal.returns-clause-absent
returns-clause-absent c =
    freed_absent c.self.invariant c.args.key c.index-slot.result.now (at_slot
    (goal.at.returns-clause-absent c).Else-slot)
