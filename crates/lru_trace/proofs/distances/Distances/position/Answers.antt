use Rattle.std.proofs.Common.{◌≡◌, ◌+◌, ◌<◌, Some, None, length, get_or, drop, sum, refl, sym, ap, ◌∙◌, arith}
use Rattle.std.proofs.lemmas.List.{get_or_read}
use Rattle.lru_trace.specs.Slots.{position, newest, live, weight_in, weights_of, HasSlot}
use Rattle.lru_trace.proofs.Logs.{unreferenced, slot_in, position_is}
use Rattle.lru_trace.proofs.distances.Distances.position.Goals.{After-index-slot, Else-slot}
use Rattle.lru_trace.proofs.distances.Distances.position.Goals as goal

within : (c : After-index-slot) → c.args.key < length c.self.inside.slots.items
within c = omega (arith, ap (λ r. r.keys) c.self.view_is, c.self.inside.slots.ok.0, c.requires)

read : (c : After-index-slot) → c.index-slot.result.now ≡ get_or c.self.inside.slots.items c.args.key 0
read c = get_or_read c.self.inside.slots.items c.args.key c.index-slot.result.now (within c) c.index-slot.ensures 0

at_slot : (c : Else-slot) → HasSlot c.self.inside.slots.items c.args.key c.index-slot.result.now
at_slot c =
    let at = (goal.at.Else-slot c).After-index-slot in
    record { within = within at; is = sym (read at); some = c.if-slot.false }

pub returns-then-slot : goal.returns-then-slot
returns-then-slot c =
    let at = goal.at.returns-then-slot c in
    let none = unreferenced c.self.invariant c.args.key (sym (read at.After-index-slot) ∙ c.if-slot.true) in
    let here : None ≡ position (weight_in c.self.inside.weights.items) c.args.key
    (newest (live c.self.inside.log.items)) = rw none refl in
    here ∙ ap (λ r. position (weight_in r.weights) c.args.key r.recency) c.self.view_is

pub weight_behind-requires-clause-within : goal.weight_behind-requires-clause-within
weight_behind-requires-clause-within c =
    rw c.deref.ensures.value (slot_in c.self.invariant c.args.key c.index-slot.result.now
    (at_slot (goal.at.weight_behind-requires-clause-within c).Else-slot))

pub weight_behind-requires-clause-sums : goal.weight_behind-requires-clause-sums
weight_behind-requires-clause-sums c = rw (c.deref.ensures.value, c.deref-2.ensures.value) c.self.invariant.sums

pub weight_behind-requires-clause-fits : goal.weight_behind-requires-clause-fits
weight_behind-requires-clause-fits c = c.self.invariant.fits

pub returns : goal.returns
returns c =
    let at = at_slot (goal.at.returns c).Else-slot in
    ap Some (c.weight_behind.ensures ∙ (λ i. sum (drop (c.index-slot.result.now + 1)
    (weights_of (weight_in (c.deref-2.ensures.value i)) (c.deref.ensures.value i))))) ∙ position_is c.self.invariant c.args.key c.index-slot.result.now at
    ∙ ap (λ r. position (weight_in r.weights) c.args.key r.recency) c.self.view_is
