use Rattle.std.proofs.Common.{◌<◌, ◌-◌, ◌^◌, length, arith}
use Rattle.group_table.specs.Layout.{slots_of}
use Rattle.group_table.proofs.LayoutLemmas.{length-laid_out, entries_within, full_within, full_byte, is_some_entry}
use Rattle.group_table.proofs.LayoutLemmas.{entry_at-full}
use Rattle.group_table.proofs.RemoveLemmas.{room_gained, removed, growth_left-removed, entry_count-pos}
use Rattle.group_table.proofs.ControlLemmas.{buckets_are}
use Rattle.group_table.proofs.PlaceLemmas.{some_empty_byte}
use Rattle.group_table.proofs.FitsLemmas.{Fits-removed}
use Rattle.group_table.proofs.TableLemmas.{IsTable-by, room_within}
use Rattle.group_table.proofs.table.Table.take.Goals as goal

pub ones_if_empty_neighbours-gives_room-requires-clause-bucket : goal.ones_if_empty_neighbours-gives_room-requires-clause-bucket
ones_if_empty_neighbours-gives_room-requires-clause-bucket g c =
    let laid_out = c.self.invariant.0.laid_out in
    omega (arith, full_within _ _ laid_out c.args.b (rw (← c.self.view_is) at c.requires), buckets_are _ _ laid_out)

pub ones_if_empty_neighbours-gives_room-requires-clause-some_empty :
    goal.ones_if_empty_neighbours-gives_room-requires-clause-some_empty
ones_if_empty_neighbours-gives_room-requires-clause-some_empty g c =
    let valid = c.self.invariant.0 in
    let within = full_within _ _ valid.laid_out c.args.b (rw (← c.self.view_is) at c.requires) in
    rw (buckets_are _ _ valid.laid_out) (some_empty_byte _ _ _ valid (omega (arith, within)))

pub ones_if_empty_neighbours-gives_room-requires-clause-used : goal.ones_if_empty_neighbours-gives_room-requires-clause-used
ones_if_empty_neighbours-gives_room-requires-clause-used g c =
    let byte = full_byte _ _ c.self.invariant.0.laid_out c.args.b (rw (← c.self.view_is) at c.requires) in
    λ e. omega (arith, byte, e)

pub overflow_sub-self : goal.overflow_sub-self
overflow_sub-self g c =
    omega (
      arith,
      entry_count-pos _ _ _ c.self.invariant.0 c.args.b
          (rw (← c.self.view_is) at c.requires),
      c.self.invariant.1,
    )

pub empty_bucket-requires-clause-bucket : goal.empty_bucket-requires-clause-bucket
empty_bucket-requires-clause-bucket g c =
    full_within _ _ c.self.invariant.0.laid_out c.args.b (rw (← c.self.view_is) at c.requires)

pub empty_bucket-requires-clause-full : goal.empty_bucket-requires-clause-full
empty_bucket-requires-clause-full g c =
    is_some_entry _ _ c.self.invariant.0.laid_out c.args.b (rw (← c.self.view_is) at c.requires)

pub invariant_of-self : goal.invariant_of-self
invariant_of-self g c =
    let there = rw (← c.self.view_is) at c.requires in
    let valid = c.self.invariant.0 in
    let gives = c.ones_if_empty_neighbours-gives_room.ensures in
    let emptied = rw (buckets_are _ _ valid.laid_out) at gives.2 in
    let r = removed _ _ _ valid c.args.b there gives.0 emptied in
    let small : c.self.inside.growth_left < 2 ^ 64 - 1 =
    omega (arith, room_within _ _ _ valid, entries_within _ _ valid.laid_out, valid.laid_out.fits) in
    rw (
      c.empty_bucket.ensures.control,
      c.empty_bucket.ensures.entries,
      c.emptied_byte-byte.ensures gives.0 gives.1,
      room_gained gives.0 _ _ gives.1 small,
    )
    (r.is_valid, omega (arith, r.count, c.self.invariant.1))

pub returns-clause-entry : goal.returns-clause-entry
returns-clause-entry g c =
    rw (← c.self.view_is)
    (entry_at-full _ _ c.self.invariant.0.laid_out c.args.b
    (rw (← c.self.view_is) at c.requires) _ c.empty_bucket.ensures.entry)

pub returns-clause-removed : goal.returns-clause-removed
returns-clause-removed g c =
    let there = rw (← c.self.view_is) at c.requires in
    let gives = c.ones_if_empty_neighbours-gives_room.ensures in
    let emptied = rw (buckets_are _ _ c.self.invariant.0.laid_out) at gives.2 in
    let r = removed _ _ _ c.self.invariant.0 c.args.b there gives.0 emptied in
    rw (
      ← c.self.view_is,
      c.empty_bucket.ensures.control,
      c.empty_bucket.ensures.entries,
      c.emptied_byte-byte.ensures gives.0 gives.1,
    )
    r.removes

pub returns-clause-growth_left : goal.returns-clause-growth_left
returns-clause-growth_left g c =
    let there = rw (← c.self.view_is) at c.requires in
    let gives = c.ones_if_empty_neighbours-gives_room.ensures in
    let emptied = rw (buckets_are _ _ c.self.invariant.0.laid_out) at gives.2 in
    let r = removed _ _ _ c.self.invariant.0 c.args.b there gives.0 emptied in
    rw (
      ← c.self.view_is,
      c.empty_bucket.ensures.control,
      c.empty_bucket.ensures.entries,
      c.emptied_byte-byte.ensures gives.0 gives.1,
    )
    (growth_left-removed _ _ _ c.self.invariant.0 c.args.b there _ _ r)

pub returns-clause-fits : goal.returns-clause-fits
returns-clause-fits g c hash_of fits =
    let within = full_within _ _ c.self.invariant.0.laid_out c.args.b (rw (← c.self.view_is) at c.requires) in
    let in_slots : c.args.b < length (slots_of c.self.inside.control c.self.inside.entries) =
    omega (arith, within, length-laid_out _ _ c.self.invariant.0.laid_out) in
    Fits-removed _ _ hash_of c.args.b (rw (← c.self.view_is) in_slots) (returns-clause-removed g c) fits

pub returns-clause-table : goal.returns-clause-table
returns-clause-table g c =
    let there = rw (← c.self.view_is) at c.requires in
    let gives = c.ones_if_empty_neighbours-gives_room.ensures in
    let emptied = rw (buckets_are _ _ c.self.invariant.0.laid_out) at gives.2 in
    let r = removed _ _ _ c.self.invariant.0 c.args.b there gives.0 emptied in
    rw (c.empty_bucket.ensures.control, c.empty_bucket.ensures.entries, c.emptied_byte-byte.ensures gives.0 gives.1)
    (IsTable-by _ _ _ r.is_valid)
