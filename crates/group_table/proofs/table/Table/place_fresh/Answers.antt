use Rattle.std.proofs.Common.{◌+◌, arith, ap}
use Rattle.std.proofs.lemmas.List.Sums.{count_by-le-length}
use Rattle.group_table.specs.Bucket.{is_full}
use Rattle.group_table.specs.Layout.{slots_of}
use Rattle.group_table.proofs.LayoutLemmas.{length-laid_out, entries_within}
use Rattle.group_table.proofs.PlaceLemmas.{some_free_byte}
use Rattle.group_table.proofs.ControlLemmas.{buckets_are}
use Rattle.group_table.proofs.JoinLemmas.{some_room, some_buckets, join_within, join_none, IsValid-joined}
use Rattle.group_table.proofs.JoinLemmas.{entry_count-written_joined, first_reached, joins_there}
use Rattle.group_table.proofs.table.Table.place_fresh.Goals as goal

pub first_free-b-requires : goal.first_free-b-requires
first_free-b-requires g c =
    let valid = c.self.invariant.0 in
    let pos = some_buckets _ _ _ valid (rw (← c.self.view_is) at c.requires.none_deleted)
    (rw (← c.self.view_is) at c.requires.growth_left) in
    let w = some_free_byte _ _ _ valid pos in
    (w.0, omega (arith, w.1, buckets_are _ _ valid.laid_out), w.2)

pub fill_bucket-requires-clause-bucket : goal.fill_bucket-requires-clause-bucket
fill_bucket-requires-clause-bucket g c =
    let valid = c.self.invariant.0 in
    let none_deleted = rw (← c.self.view_is) at c.requires.none_deleted in
    let growth_left = rw (← c.self.view_is) at c.requires.growth_left in
    join_within _ _ _ valid none_deleted growth_left c.args.hash c.first_free-b.result
    (first_reached _ _ _ valid none_deleted growth_left _ _ c.first_free-b.ensures)

pub fill_bucket-requires-clause-free_there : goal.fill_bucket-requires-clause-free_there
fill_bucket-requires-clause-free_there g c =
    let valid = c.self.invariant.0 in
    let none_deleted = rw (← c.self.view_is) at c.requires.none_deleted in
    let growth_left = rw (← c.self.view_is) at c.requires.growth_left in
    join_none _ _ _ valid none_deleted growth_left c.args.hash c.first_free-b.result
    (first_reached _ _ _ valid none_deleted growth_left _ _ c.first_free-b.ensures)

pub overflow_sub-self : goal.overflow_sub-self
overflow_sub-self g c =
    some_room _ _ _ c.self.invariant.0 (rw (← c.self.view_is) at c.requires.none_deleted)
    (rw (← c.self.view_is) at c.requires.growth_left)

pub overflow_add-self : goal.overflow_add-self
overflow_add-self g c =
    let valid = c.self.invariant.0 in
    omega (
      arith,
      count_by-le-length is_full (slots_of c.self.inside.control c.self.inside.entries),
      c.self.invariant.1,
      length-laid_out _ _ valid.laid_out,
      entries_within _ _ valid.laid_out,
      valid.laid_out.fits,
    )

pub invariant_of-self : goal.invariant_of-self
invariant_of-self g c =
    let valid = c.self.invariant.0 in
    let none_deleted = rw (← c.self.view_is) at c.requires.none_deleted in
    let growth_left = rw (← c.self.view_is) at c.requires.growth_left in
    let reached = first_reached _ _ _ valid none_deleted growth_left _ _ c.first_free-b.ensures in
    let counted = entry_count-written_joined _ _ _ valid none_deleted growth_left c.args.hash c.first_free-b.result
    reached c.tag_of.result c.args.entry c.tag_of.ensures.tag in
    rw (c.fill_bucket.ensures.control, c.fill_bucket.ensures.entries) (
      IsValid-joined _ _ _ valid none_deleted growth_left c.args.hash c.first_free-b.result reached c.tag_of.result
          c.args.entry c.tag_of.ensures.tag,
      rw counted (ap (λ n. n + 1) c.self.invariant.1),
    )

pub returns-clause-joins : goal.returns-clause-joins
returns-clause-joins g c =
    let valid = c.self.invariant.0 in
    let none_deleted = rw (← c.self.view_is) at c.requires.none_deleted in
    let growth_left = rw (← c.self.view_is) at c.requires.growth_left in
    let reached = first_reached _ _ _ valid none_deleted growth_left _ _ c.first_free-b.ensures in
    rw (← c.self.view_is, c.fill_bucket.ensures.control, c.fill_bucket.ensures.entries)
    (joins_there _ _ _ valid none_deleted growth_left c.args.hash c.first_free-b.result reached c.tag_of.result
    c.args.entry c.tag_of.ensures.tag c.tag_of.ensures.value)
