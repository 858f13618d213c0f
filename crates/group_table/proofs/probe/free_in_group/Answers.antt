use Rattle.std.proofs.Common.{◌<◌, ◌+◌, ◌%◌, slice_index, sym, arith}
use Rattle.std.proofs.lemmas.Bool.{lt-ltb, le-ltb}
use Rattle.group_table.specs.Bytes.{IsFreeByte}
use Rattle.group_table.specs.Control.{buckets_of}
use Rattle.group_table.proofs.Masks.{mask_at, mask_from_start, none_of_zero}
use Rattle.group_table.proofs.LaneLemmas.{full_lane, lane_between, free_before}
use Rattle.group_table.proofs.probe.free_in_group.Goals as goal

pub returns-then-mask-eq0-clause-none : goal.returns-then-mask-eq0-clause-none
returns-then-mask-eq0-clause-none c lane p =
    lt-ltb _ 128 (full_lane _ _ c.group.ensures.circle.power c.requires.start _ c.group.ensures.circle.repeated _
    (mask_at IsFreeByte _ c.args.control.now c.args.start _ c.group.ensures.bytes c.match_free-mask.ensures) lane p
    (none_of_zero _ lane c.if-mask-eq0.true))

pub returns-then-byte-ge-DELETED-clause-found : goal.returns-then-byte-ge-DELETED-clause-found
returns-then-byte-ge-DELETED-clause-found c =
    let lane = c.lowest_lane.ensures in
    record {
      first = record {
        step = c.lowest_lane.result;
        there = sym c.wrap-b.ensures.value;
        free_there = le-ltb _ 128 (omega (arith, c.if-byte-ge-DELETED.true));
        full_before = λ before p. lt-ltb _ 128 (full_lane _ _ c.group.ensures.circle.power c.requires.start _
            c.group.ensures.circle.repeated _
            (mask_at IsFreeByte _ c.args.control.now c.args.start _ c.group.ensures.bytes c.match_free-mask.ensures)
            before (omega (arith, p, lane.bound))
            (λ set. omega (arith, p, lane.first before set)));
      };
      in_group = lane.bound;
    }

pub lowest_lane-requires-2 : goal.lowest_lane-requires-2
lowest_lane-requires-2 c zero =
    let some = c.requires.some_free in
    let frees = mask_at IsFreeByte _ c.args.control.now c.args.start _ c.group.ensures.bytes
    c.match_free-mask.ensures in
    let byte : slice_index c.args.control.now ((c.args.start + c.lowest_lane.result) % buckets_of c.args.control.now)
    < 128 = rw (← c.wrap-b.ensures.value) (omega (arith, c.if-byte-ge-DELETED.false)) in
    let past = lane_between _ _ c.group.ensures.circle.power c.requires.start _ c.group.ensures.circle.repeated _ _
    frees c.lowest_lane.ensures.set byte in
    let all = mask_from_start IsFreeByte _ c.args.control.now _ c.group-2.ensures.bytes c.match_free.ensures in
    none_of_zero _ some.0 zero ((all some.0).1 (omega (arith, past.0, past.1, some.1), some.2))

pub returns-clause-found : goal.returns-clause-found
returns-clause-found c =
    let some = c.requires.some_free in
    let lane = c.lowest_lane.ensures in
    let first = c.lowest_lane-2.ensures in
    let frees = mask_at IsFreeByte _ c.args.control.now c.args.start _ c.group.ensures.bytes
    c.match_free-mask.ensures in
    let byte : slice_index c.args.control.now ((c.args.start + c.lowest_lane.result) % buckets_of c.args.control.now)
    < 128 = rw (← c.wrap-b.ensures.value) (omega (arith, c.if-byte-ge-DELETED.false)) in
    let all = mask_from_start IsFreeByte _ c.args.control.now _ c.group-2.ensures.bytes c.match_free.ensures in
    free_before _ _ c.group.ensures.circle.power c.requires.start _ c.group.ensures.circle.repeated _ _ frees lane.bound
    lane.first lane.set byte _ _ all first.first first.set some.0 some.1 some.2
