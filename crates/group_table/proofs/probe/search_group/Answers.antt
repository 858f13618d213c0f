use Rattle.std.proofs.Common.{◌≡◌, of_calls, refl, arith}
use Rattle.group_table.proofs.ControlLemmas.{buckets_are}
use Rattle.group_table.proofs.LayoutLemmas.{some_by, bucket_at-read}
use Rattle.group_table.proofs.SearchLemmas.{Answers-from_call}
use Rattle.group_table.proofs.Masks.{mask_at, none_of_zero, some_lane}
use Rattle.group_table.proofs.LaneLemmas.{AsksLanes-first, AsksLanes-next, AcceptsIn-lane, RejectsGroup-from, lane_tag}
use Rattle.group_table.proofs.LaneLemmas.{ended_lane, none_ended}
use Rattle.group_table.proofs.probe.search_group.Goals as goal

pub lanes-init : goal.lanes-init
lanes-init g c = record {
  callable = c.requires.callable;
  asked = AsksLanes-first _ _ c.requires.laid_out _ c.requires.start g.F.FnMut _ c.requires.tag _ _
      (mask_at (λ byte. byte ≡ c.args.tag) _ c.args.control.now c.args.start _ c.group-group.ensures.bytes
      c.match_tag-mask.ensures);
}

pub returns-then-f-clause-asked : goal.returns-then-f-clause-asked
returns-then-f-clause-asked g c =
    let l = c.lanes.invariant.asked in
    let here = rw (buckets_are _ _ c.requires.laid_out) at c.wrap-b.ensures.value in
    let within = rw (buckets_are _ _ c.requires.laid_out) at c.wrap-b.ensures.bound in
    let low = c.lowest_lane.ensures in
    let tagged = lane_tag _ _ c.requires.laid_out _ c.requires.start g.F.FnMut _ c.requires.tag _ _ _ l _ _ low.set
    low.first here in
    let slot = bucket_at-read c.args.control.now c.args.entries.now c.requires.laid_out c.wrap-b.result within
    c.args.tag c.get.result.now tagged c.get.ensures in
    AcceptsIn-lane _ _ c.requires.laid_out _ c.requires.start g.F.FnMut _ c.requires.tag _ _ _ l _ _ low.set low.first
    here c.get.result.now slot _
    (Answers-from_call g.F.FnMut _ c.get.result.now slot refl c.f.ensures c.if-f.true)

pub wrap-b-requires : goal.wrap-b-requires
wrap-b-requires g c = omega (arith, buckets_are _ _ c.requires.laid_out, c.requires.start)

pub get-requires : goal.get-requires
get-requires g c =
    let l = c.lanes.invariant.asked in
    let here = rw (buckets_are _ _ c.requires.laid_out) at c.wrap-b.ensures.value in
    let within = rw (buckets_are _ _ c.requires.laid_out) at c.wrap-b.ensures.bound in
    let low = c.lowest_lane.ensures in
    let tagged = lane_tag _ _ c.requires.laid_out _ c.requires.start g.F.FnMut _ c.requires.tag _ _ _ l _ _ low.set
    low.first here in
    some_by _ _ (c.requires.laid_out.agrees c.wrap-b.result within) (omega (arith, tagged, c.requires.tag))

pub lanes-preserved : goal.lanes-preserved
lanes-preserved g c =
    let l = c.lanes.invariant.asked in
    let here = rw (buckets_are _ _ c.requires.laid_out) at c.wrap-b.ensures.value in
    let within = rw (buckets_are _ _ c.requires.laid_out) at c.wrap-b.ensures.bound in
    let low = c.lowest_lane.ensures in
    let tagged = lane_tag _ _ c.requires.laid_out _ c.requires.start g.F.FnMut _ c.requires.tag _ _ _ l _ _ low.set
    low.first here in
    let slot = bucket_at-read c.args.control.now c.args.entries.now c.requires.laid_out c.wrap-b.result within
    c.args.tag c.get.result.now tagged c.get.ensures in
    record {
      callable = search of_calls;
      asked = AsksLanes-next _ _ c.requires.laid_out _ c.requires.start g.F.FnMut _ c.requires.tag _ _ _ l _ _ low.set
          low.first here c.get.result.now slot _ _
          (rw (← low.value) at c.without_lowest-mask.ensures.rest)
          (Answers-from_call g.F.FnMut _ c.get.result.now slot refl c.f.ensures c.if-f.false);
    }

pub returns-then-match_empty-ne0-clause-asked : goal.returns-then-match_empty-ne0-clause-asked
returns-then-match_empty-ne0-clause-asked g c =
    let some = c.requires.some_empty in
    let empties = mask_at (λ byte. byte ≡ 255) _ c.args.control.now c.args.start _ c.group-group.ensures.bytes
    c.match_empty.ensures in
    let w = some_lane c.match_empty.result (omega (arith, c.match_empty.type_inv)) c.if-match_empty-ne0.true in (
      RejectsGroup-from _ _ c.requires.laid_out _ c.requires.start g.F.FnMut _ c.requires.tag _ _ _
          c.lanes.invariant.asked (λ lane. none_of_zero _ lane c.lanes-test.false),
      ended_lane _ _ c.requires.laid_out _ c.requires.start some.0 some.1 some.2 w.0 w.1 ((empties w.0).0 w.2).1,
    )

pub returns-else-match_empty-ne0-clause-asked : goal.returns-else-match_empty-ne0-clause-asked
returns-else-match_empty-ne0-clause-asked g c =
    let empties = mask_at (λ byte. byte ≡ 255) _ c.args.control.now c.args.start _ c.group-group.ensures.bytes
    c.match_empty.ensures in (
      RejectsGroup-from _ _ c.requires.laid_out _ c.requires.start g.F.FnMut _ c.requires.tag _ _ _
          c.lanes.invariant.asked (λ lane. none_of_zero _ lane c.lanes-test.false),
      none_ended _ _ c.requires.laid_out _ c.requires.start
          (λ lane p e. none_of_zero _ lane c.if-match_empty-ne0.false ((empties lane).1 (p, e))),
    )
