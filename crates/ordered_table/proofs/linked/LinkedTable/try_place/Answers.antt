use Rattle.ordered_table.proofs.Chains.WholeChains.{IsLinked-view}
use Rattle.ordered_table.proofs.Tables.PlacedEntries.{others_chained, placed_newer, placed_older, shown_whole}
use Rattle.ordered_table.proofs.Tables.PlacedEntries.{placed}
use Rattle.ordered_table.proofs.Tables.PairSlots.{bucket_states-pair_slots}
use Rattle.ordered_table.proofs.linked.LinkedTable.try_place.Goals as goal

pub link_placed-requires-clause-chained : goal.link_placed-requires-clause-chained
link_placed-requires-clause-chained g c =
    others_chained g.met.N.LinkType.laws c.self.invariant c.newest_entry.ensures.pair c.in-Ok.ensures.placed
    c.in-Ok.ensures.may_fill

pub link_placed-requires-clause-newer : goal.link_placed-requires-clause-newer
link_placed-requires-clause-newer g c =
    placed_newer g.met.N.LinkType.laws c.self.invariant c.newest_entry.ensures.pair c.in-Ok.ensures.placed
    c.in-Ok.ensures.may_fill c.newest_entry.ensures.newer

pub link_placed-requires-clause-older : goal.link_placed-requires-clause-older
link_placed-requires-clause-older g c =
    placed_older g.met.N.LinkType.laws c.self.invariant c.newest_entry.ensures.pair c.in-Ok.ensures.placed
    c.in-Ok.ensures.may_fill
    c.newest_entry.ensures.older

pub invariant_of-self : goal.invariant_of-self
invariant_of-self g c =
    let e = c.link_placed.ensures in let new = c.link_placed.new.self in
    shown_whole g.met.N.LinkType.laws c.self.invariant c.newest_entry.ensures.pair c.in-Ok.ensures.placed
    c.in-Ok.ensures.may_fill new.table new.newest new.oldest e.pairs e.insertions e.chain

pub returns-in-Ok : goal.returns-in-Ok
returns-in-Ok g c =
    let e = c.link_placed.ensures in let new = c.link_placed.new.self in
    let p = placed g.met.N.LinkType.laws c.self.invariant c.newest_entry.ensures.pair c.in-Ok.ensures.placed
    c.in-Ok.ensures.may_fill new.table new.newest new.oldest e.pairs e.insertions e.chain in
    record {
      placed = rw (← c.self.view_is) (c.in-Ok.b, p.lands c.in-Ok.ensures.growth_left);
      fits = λ hash_of fits same. p.fits hash_of c.in-Ok.ensures.fits (rw (← c.self.view_is) at fits) same;
      linked = p.is_linked c.try_place.ensures.table;
      returned = tt;
      unchanged = tt;
      no_place = tt;
    }

pub returns-in-Err-clause-linked : goal.returns-in-Err-clause-linked
returns-in-Err-clause-linked g c =
    rw c.in-Err.ensures.unchanged (IsLinked-view g.met.N.LinkType.laws c.self.invariant
    (rw c.in-Err.ensures.unchanged at c.try_place.ensures.table))

pub returns-in-Err-clause-no_place : goal.returns-in-Err-clause-no_place
returns-in-Err-clause-no_place g c = rw
    (← c.self.view_is, bucket_states-pair_slots c.self.inside.chain.table.slots) c.in-Err.ensures.no_place
