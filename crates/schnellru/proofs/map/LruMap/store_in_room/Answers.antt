use Rattle.std.proofs.Common.{◌≡◌, ◌+◌, ◌<◌, length, sym, subst}
use Rattle.group_table.specs.Sizes.{full_capacity}
use Rattle.lru_model.specs.State.{buckets, growth_left}
use Rattle.schnellru.specs.Inside.Holds.{state_of, table_state}
use Rattle.lru_model.proofs.TableSizes.FilledBuckets.{fills_exact}
use Rattle.schnellru.specs.Inside.Fields.{fields_of}
use Rattle.lru_model.proofs.States.Placements.{fills_within}
use Rattle.schnellru.proofs.Maps.Landings.{lands_placed, lands_fills, lands_holds}
use Rattle.schnellru.proofs.map.LruMap.store_in_room.Goals as goal

pub invariant_of-self : goal.invariant_of-self
invariant_of-self g c =
    let m = c.self.inside in let e = c.place.ensures in let holds = c.self.invariant in
    lands_holds m.entries c.place.new.self c.args.hash c.args.pair e.placed.0 holds.linked e.placed.1 _
    holds.map.sized _ holds
    e.linked (e.fits _ holds.fits (sym (rw (← c.self.view_is) at c.requires.hash)))
    (rw (← c.self.view_is) at c.requires.absent)

pub returns-clause-placed : goal.returns-clause-placed
returns-clause-placed g c =
    let m = c.self.inside in let e = c.place.ensures in let holds = c.self.invariant in
    rw (← c.self.view_is)
    (lands_placed m.entries c.place.new.self c.args.hash c.args.pair e.placed.0 holds.linked e.placed.1 _
    holds.map.sized)

pub returns-clause-fills : goal.returns-clause-fills
returns-clause-fills g c =
    let m = c.self.inside in let e = c.place.ensures in let holds = c.self.invariant in
    rw (← c.self.view_is)
    (lands_fills m.entries c.place.new.self c.args.hash c.args.pair e.placed.0 holds.linked e.placed.1 holds.map.sized)

pub returns-clause-within : goal.returns-clause-within
returns-clause-within g c =
    let m = c.self.inside in let e = c.place.ensures in let holds = c.self.invariant in
    let rest = fields_of m (g.L.LinkType.LinkType.number g.L.LinkType.LinkType.MAX) in
    subst (λ st. length st.pairs < full_capacity (buckets st)) c.self.view_is
    (fills_within (state_of m.entries rest) holds.map.sized c.args.hash _
    (lands_fills m.entries c.place.new.self c.args.hash c.args.pair e.placed.0 holds.linked e.placed.1
    holds.map.sized))

pub returns-clause-spends : goal.returns-clause-spends
returns-clause-spends g c =
    let m = c.self.inside in
    let rest = fields_of m (g.L.LinkType.LinkType.number g.L.LinkType.LinkType.MAX) in
    subst (λ st. length st.pairs + growth_left st ≡ full_capacity (buckets st) → growth_left (state_of c.place.new.self rest) + 1
    ≡ growth_left st) c.self.view_is
    (fills_exact (table_state m.entries) (table_state c.place.new.self) c.self.invariant.map.sized c.args.hash
    (rw (← c.self.view_is) at (returns-clause-fills g c)))
