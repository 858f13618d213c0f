use Rattle.std.proofs.Common.{◌≡◌, ◌<◌, length, arith, sym, ap, ◌∙◌}
use Rattle.group_table.specs.Sizes.{full_capacity}
use Rattle.group_table.proofs.LayoutLemmas.{length-laid_out}
use Rattle.group_table.proofs.TableLemmas.{IsTable-by, room_by}
use Rattle.group_table.proofs.PlaceLemmas.{some_free_byte, has_buckets, place_first, place_within}
use Rattle.group_table.proofs.PlaceLemmas.{place_byte, no_place_left, place_spends, MayFill-from, room_spent}
use Rattle.group_table.proofs.ControlLemmas.{buckets_are}
use Rattle.group_table.proofs.table.Table.try_place.Goals as goal

pub returns-then-is_without_buckets-clause-table : goal.returns-then-is_without_buckets-clause-table
returns-then-is_without_buckets-clause-table g c = rw (← c.self.view_is) (IsTable-by _ _ _ c.self.invariant.0)

pub is_without_buckets-requires : goal.is_without_buckets-requires
unfolding full_capacity
is_without_buckets-requires g c none =
    let full : full_capacity (length c.self.inside.entries) ≡ 0 =
    ap full_capacity (sym (buckets_are _ _ c.self.invariant.0.laid_out) ∙ none) in
    omega (arith, c.self.invariant.0.room_left, full)

pub room_taken-spent-requires : goal.room_taken-spent-requires
room_taken-spent-requires g c =
    let some = has_buckets c.is_without_buckets.ensures c.if-is_without_buckets.false in
    rw c.byte.ensures (place_byte c.self.invariant.0 _ _ some c.first_free-b.ensures)

pub first_free-b-requires : goal.first_free-b-requires
first_free-b-requires g c =
    let some = has_buckets c.is_without_buckets.ensures c.if-is_without_buckets.false in
    let valid = c.self.invariant.0 in
    let are = buckets_are _ _ valid.laid_out in
    let w = some_free_byte _ _ _ valid (omega (arith, some, are)) in
    (w.0, omega (arith, w.1, are), w.2)

pub returns-then-self-spent-clause-table : goal.returns-then-self-spent-clause-table
returns-then-self-spent-clause-table g c = rw (← c.self.view_is) (IsTable-by _ _ _ c.self.invariant.0)

pub returns-then-self-spent-clause-no_place : goal.returns-then-self-spent-clause-no_place
returns-then-self-spent-clause-no_place g c =
    let some = has_buckets c.is_without_buckets.ensures c.if-is_without_buckets.false in
    rw (← c.self.view_is) (no_place_left c.self.invariant.0 _ _ some c.first_free-b.ensures c.byte.ensures
    c.room_taken-spent.ensures (omega arith))

pub fill_free-requires-clause-bucket : goal.fill_free-requires-clause-bucket
fill_free-requires-clause-bucket g c =
    let some = has_buckets c.is_without_buckets.ensures c.if-is_without_buckets.false in
    let valid = c.self.invariant.0 in
    let within : c.first_free-b.result < length c.self.inside.entries =
    place_within valid _ _ some c.first_free-b.ensures in
    rw (← c.self.view_is) (omega (arith, within, length-laid_out _ _ valid.laid_out))

pub fill_free-requires-clause-first : goal.fill_free-requires-clause-first
fill_free-requires-clause-first g c =
    let some = has_buckets c.is_without_buckets.ensures c.if-is_without_buckets.false in
    rw (← c.self.view_is) (place_first c.self.invariant.0 _ _ some c.first_free-b.ensures)

pub fill_free-requires-clause-spent : goal.fill_free-requires-clause-spent
fill_free-requires-clause-spent g c =
    let some = has_buckets c.is_without_buckets.ensures c.if-is_without_buckets.false in
    let valid = c.self.invariant.0 in
    let spends = place_spends valid _ _ some c.first_free-b.ensures c.byte.ensures c.room_taken-spent.ensures
    (omega arith) in
    rw (← c.self.view_is) (sym (room_spent valid c.first_free-b.result spends))

pub fill_free-requires-clause-within : goal.fill_free-requires-clause-within
fill_free-requires-clause-within g c =
    let valid = c.self.invariant.0 in
    rw (← c.self.view_is) (omega (arith, room_by _ _ _ valid))

pub returns-clause-may_fill : goal.returns-clause-may_fill
returns-clause-may_fill g c =
    let some = has_buckets c.is_without_buckets.ensures c.if-is_without_buckets.false in
    let valid = c.self.invariant.0 in
    let spends = place_spends valid _ _ some c.first_free-b.ensures c.byte.ensures c.room_taken-spent.ensures
    (omega arith) in
    rw (← c.self.view_is) (MayFill-from valid c.first_free-b.result spends)
