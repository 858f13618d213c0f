use Rattle.std.proofs.Common.{inl}
use Rattle.ordered_table.proofs.Tables.PlacedEntries.{others_chained, placed_newer, placed_older, shown_whole}
use Rattle.ordered_table.proofs.Tables.PlacedEntries.{placed, linked_room}
use Rattle.ordered_table.proofs.linked.LinkedTable.place.Goals as goal

pub place-b-requires : goal.place-b-requires
place-b-requires g c =
    linked_room c.self.inside.chain.table.slots (rw (← c.self.view_is) at c.requires)

pub link_placed-requires-clause-chained : goal.link_placed-requires-clause-chained
link_placed-requires-clause-chained g c =
    others_chained g.met.N.LinkType.laws c.self.invariant c.newest_entry.ensures.pair c.place-b.ensures.placed
    (inl (linked_room _ (rw (← c.self.view_is) at c.requires)))

pub link_placed-requires-clause-newer : goal.link_placed-requires-clause-newer
link_placed-requires-clause-newer g c =
    placed_newer g.met.N.LinkType.laws c.self.invariant c.newest_entry.ensures.pair c.place-b.ensures.placed
    (inl (linked_room _ (rw (← c.self.view_is) at c.requires))) c.newest_entry.ensures.newer

pub link_placed-requires-clause-older : goal.link_placed-requires-clause-older
link_placed-requires-clause-older g c =
    placed_older g.met.N.LinkType.laws c.self.invariant c.newest_entry.ensures.pair c.place-b.ensures.placed
    (inl (linked_room _ (rw (← c.self.view_is) at c.requires)))
    c.newest_entry.ensures.older

pub invariant_of-self : goal.invariant_of-self
invariant_of-self g c =
    let e = c.link_placed.ensures in let new = c.link_placed.new.self in
    shown_whole g.met.N.LinkType.laws c.self.invariant c.newest_entry.ensures.pair c.place-b.ensures.placed
    (inl (linked_room _ (rw (← c.self.view_is) at c.requires))) new.table new.newest new.oldest e.pairs e.insertions
    e.chain

pub returns : goal.returns
returns g c =
    let e = c.link_placed.ensures in let new = c.link_placed.new.self in
    let p = placed g.met.N.LinkType.laws c.self.invariant c.newest_entry.ensures.pair c.place-b.ensures.placed
    (inl (linked_room _ (rw (← c.self.view_is) at c.requires))) new.table new.newest new.oldest e.pairs e.insertions
    e.chain in
    record {
      placed = rw (← c.self.view_is) (c.place-b.result, p.lands c.place-b.ensures.growth_left);
      fits = λ hash_of fits same. p.fits hash_of c.place-b.ensures.fits (rw (← c.self.view_is) at fits) same;
      linked = p.is_linked c.place-b.ensures.table;
    }
