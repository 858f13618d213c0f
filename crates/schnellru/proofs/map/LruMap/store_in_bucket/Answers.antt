use Rattle.std.proofs.Common.{◌<◌, length, sym, subst}
use Rattle.group_table.specs.Sizes.{full_capacity}
use Rattle.lru_model.specs.State.{buckets}
use Rattle.lru_model.specs.Place.{HasNoBucket}
use Rattle.schnellru.specs.Inside.Holds.{state_of}
use Rattle.schnellru.specs.Inside.Fields.{fields_of}
use Rattle.lru_model.proofs.States.Outcomes.{on_err}
use Rattle.lru_model.proofs.States.Placements.{fills_within, no_place_bucket}
use Rattle.schnellru.proofs.Maps.Landings.{lands_placed, lands_fills, lands_holds}
use Rattle.schnellru.proofs.map.LruMap.store_in_bucket.Goals as goal

pub invariant_of-self-2 : goal.invariant_of-self-2
invariant_of-self-2 g c =
    let m = c.self.inside in let e = c.in_ok-try_place.ensures in let holds = c.self.invariant in
    lands_holds m.entries c.try_place.new.self c.args.hash c.args.pair e.placed.0 holds.linked e.placed.1 _
    holds.map.sized _ holds
    e.linked (e.fits _ holds.fits (sym (rw (← c.self.view_is) at c.requires.hash)))
    (rw (← c.self.view_is) at c.requires.absent)

pub returns-clause-placed : goal.returns-clause-placed
returns-clause-placed g c =
    let m = c.self.inside in let e = c.in_ok-try_place.ensures in let holds = c.self.invariant in
    rw (← c.self.view_is)
    (lands_placed m.entries c.try_place.new.self c.args.hash c.args.pair e.placed.0 holds.linked e.placed.1 _
    holds.map.sized)

pub returns-clause-fills : goal.returns-clause-fills
returns-clause-fills g c =
    let m = c.self.inside in let e = c.in_ok-try_place.ensures in let holds = c.self.invariant in
    rw (← c.self.view_is)
    (lands_fills m.entries c.try_place.new.self c.args.hash c.args.pair e.placed.0 holds.linked e.placed.1
    holds.map.sized)

pub returns-clause-within : goal.returns-clause-within
returns-clause-within g c =
    let m = c.self.inside in let e = c.in_ok-try_place.ensures in let holds = c.self.invariant in
    let rest = fields_of m (g.L.LinkType.LinkType.number g.L.LinkType.LinkType.MAX) in
    subst (λ st. length st.pairs < full_capacity (buckets st)) c.self.view_is
    (fills_within (state_of m.entries rest) holds.map.sized c.args.hash _
    (lands_fills m.entries c.try_place.new.self c.args.hash c.args.pair e.placed.0 holds.linked e.placed.1
    holds.map.sized))

pub returns-in_err-try_place-clause-no_bucket : goal.returns-in_err-try_place-clause-no_bucket
returns-in_err-try_place-clause-no_bucket g c =
    let m = c.self.inside in
    let rest = fields_of m (g.L.LinkType.LinkType.number g.L.LinkType.LinkType.MAX) in
    on_err c.from_residual.result (subst (HasNoBucket c.args.hash) c.self.view_is
    (no_place_bucket (state_of m.entries rest) c.self.invariant.map.sized c.args.hash
    c.in_err-try_place.ensures.no_place))
