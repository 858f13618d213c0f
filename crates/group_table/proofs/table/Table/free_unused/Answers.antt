use Rattle.std.proofs.Common.{◌≡◌, length, ap, ◌∙◌, arith}
use Rattle.group_table.specs.Bucket.{entry_count}
use Rattle.group_table.proofs.ControlLemmas.{buckets_are}
use Rattle.group_table.proofs.FreshLemmas.{none_left}
use Rattle.group_table.proofs.table.Table.free_unused.Goals as goal

pub free-requires : goal.free-requires
free-requires g c =
    let parts = c.into_parts-control.ensures in
    let n : c.buckets.result ≡ length c.into_parts-control.result.1 = omega (arith, buckets_are _ _ parts.laid_out) in
    rw n (none_left _ _ parts.laid_out (ap entry_count parts.slots ∙ c.requires))
