use Rattle.std.proofs.Common.{◌<◌, length, arith, sym}
use Rattle.group_table.proofs.LayoutLemmas.{length-laid_out}
use Rattle.group_table.proofs.TableLemmas.{room_by}
use Rattle.group_table.proofs.PlaceLemmas.{some_free_byte, some_buckets, place_first, place_within, place_byte}
use Rattle.group_table.proofs.PlaceLemmas.{place_spends, room_spent, spends_one}
use Rattle.group_table.proofs.ControlLemmas.{buckets_are}
use Rattle.group_table.proofs.table.Table.place.Goals as goal

pub first_free-b-requires : goal.first_free-b-requires
first_free-b-requires g c =
    let valid = c.self.invariant.0 in
    let some = some_buckets valid (rw (← c.self.view_is) at c.requires) in
    let are = buckets_are _ _ valid.laid_out in
    let w = some_free_byte _ _ _ valid (omega (arith, some, are)) in
    (w.0, omega (arith, w.1, are), w.2)

pub byte-requires : goal.byte-requires
byte-requires g c =
    let valid = c.self.invariant.0 in
    let some = some_buckets valid (rw (← c.self.view_is) at c.requires) in
    let within : c.first_free-b.result < length c.self.inside.entries =
    place_within valid _ _ some c.first_free-b.ensures in
    omega (arith, within, buckets_are _ _ valid.laid_out)

pub room_taken-spent-requires : goal.room_taken-spent-requires
room_taken-spent-requires g c =
    let valid = c.self.invariant.0 in
    let some = some_buckets valid (rw (← c.self.view_is) at c.requires) in
    rw c.byte.ensures (place_byte valid _ _ some c.first_free-b.ensures)

pub fill_free-requires-clause-bucket : goal.fill_free-requires-clause-bucket
fill_free-requires-clause-bucket g c =
    let valid = c.self.invariant.0 in
    let some = some_buckets valid (rw (← c.self.view_is) at c.requires) in
    let within : c.first_free-b.result < length c.self.inside.entries =
    place_within valid _ _ some c.first_free-b.ensures in
    rw (← c.self.view_is) (omega (arith, within, length-laid_out _ _ valid.laid_out))

pub fill_free-requires-clause-first : goal.fill_free-requires-clause-first
fill_free-requires-clause-first g c =
    let valid = c.self.invariant.0 in
    let some = some_buckets valid (rw (← c.self.view_is) at c.requires) in
    rw (← c.self.view_is) (place_first valid _ _ some c.first_free-b.ensures)

pub fill_free-requires-clause-spent : goal.fill_free-requires-clause-spent
fill_free-requires-clause-spent g c =
    let valid = c.self.invariant.0 in let growth_left = rw (← c.self.view_is) at c.requires in
    let some = some_buckets valid growth_left in
    let one = spends_one valid _ _ some c.first_free-b.ensures c.byte.ensures c.room_taken-spent.ensures in
    let spends = place_spends valid _ _ some c.first_free-b.ensures c.byte.ensures c.room_taken-spent.ensures
    (omega (arith, one, growth_left, room_by _ _ _ valid)) in
    rw (← c.self.view_is) (sym (room_spent valid c.first_free-b.result spends))

pub fill_free-requires-clause-within : goal.fill_free-requires-clause-within
fill_free-requires-clause-within g c =
    let valid = c.self.invariant.0 in
    let some = some_buckets valid (rw (← c.self.view_is) at c.requires) in
    omega (
      arith,
      c.requires,
      spends_one valid _ _ some c.first_free-b.ensures c.byte.ensures c.room_taken-spent.ensures,
    )
