use Rattle.std.proofs.Common.{arith, length}
use Rattle.group_table.specs.Bucket.{bucket_states}
use Rattle.group_table.proofs.CountedStates.{facts}
use Rattle.lru_model.proofs.TableSizes.Growth.{full_capacity-at_most}
use Rattle.ordered_table.proofs.Tables.BucketPairs.{pairs-length}
use Rattle.schnellru.proofs.map.LruMap.guaranteed_capacity.Goals as goal

pub overflow_add-result : goal.overflow_add-result
overflow_add-result g c =
    let t = c.self.inside.entries in let sized = c.self.invariant.map.sized in
    omega (
      arith,
      c.len.ensures.len,
      c.growth_left.ensures.growth_left,
      pairs-length t c.self.invariant.linked,
      sized.taken,
      (facts sized.table).within,
      sized.table.addressable,
      full_capacity-at_most (length (bucket_states t.slots)),
    )

pub returns : goal.returns
returns g c =
    rw (← c.self.view_is)
    (omega (
      arith,
      c.len.ensures.len,
      c.growth_left.ensures.growth_left,
      pairs-length c.self.inside.entries c.self.invariant.linked,
    ))
