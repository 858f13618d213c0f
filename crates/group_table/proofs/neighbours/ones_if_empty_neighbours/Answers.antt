use Rattle.std.proofs.Common.{refl, ◌∙◌, nat_lt}
use Rattle.std.specs.Int.Count.{count_leading_zeros, count_trailing_zeros}
use Rattle.std.proofs.lemmas.Nat.{leading_le, trailing_le}
use Rattle.group_table.specs.Control.{buckets_of}
use Rattle.group_table.proofs.Masks.{masks_meet, lanes_under_mask}
use Rattle.group_table.proofs.Masks.{none_in_lanes_above, lanes_above_end, none_in_lanes_below, lanes_below_end}
use Rattle.group_table.proofs.RunLanes.{lanes_tell, run_before_lanes, run_before_small, run_from_lanes, run_from_small}
use Rattle.group_table.proofs.neighbours.ones_if_empty_neighbours.Goals as goal

pub returns : goal.returns
returns c =
    let bytes = c.args.control.now in
    let n = buckets_of bytes in
    let circle = c.empty_before.ensures.circle in
    let e = c.requires.some_empty in
    let before = c.empty_before.result in
    let after = c.empty_from.result in
    let high = none_in_lanes_above before c.empty_before.type_inv in
    let low = none_in_lanes_below after c.empty_from.type_inv in
    let few = leading_le 16 before in
    let few_from = trailing_le 16 after in
    let under = c.lanes_below-used.ensures in
    let met = lanes_under_mask after before c.lanes_below-used.result c.empty_before.type_inv under.some under.none
    ∙ masks_meet before (count_trailing_zeros 16 after) c.empty_before.type_inv in (
      nat_lt c.lanes_below-used.result before,
      c.ones_if_less.ensures,
      rw met
          (lanes_tell bytes n circle.power circle.repeated c.args.b c.requires.bucket
          (count_leading_zeros 16 before) (count_trailing_zeros 16 after)
          (run_before_lanes bytes n circle.power circle.repeated c.args.b c.requires.bucket before _ few _ refl
          c.empty_before.ensures.lanes high (lanes_above_end before c.empty_before.type_inv))
          (run_before_small bytes n circle.power circle.repeated c.args.b c.requires.bucket before _ few _ refl
          c.empty_before.ensures.lanes high)
          (run_from_lanes bytes n circle.power circle.repeated c.args.b c.requires.bucket after _ few_from
          c.empty_from.ensures.lanes low (lanes_below_end after c.empty_from.type_inv))
          (run_from_small bytes n circle.power circle.repeated c.args.b c.requires.bucket after _ few_from
          c.empty_from.ensures.lanes low) c.requires.used e.0 e.1 e.2),
    )
