use Rattle.std.proofs.Common.{◌≡◌, nat_lt, length, ap, ◌∙◌, arith}
use Rattle.group_table.specs.Control.{buckets_of}
use Rattle.group_table.specs.Layout.{slots_of}
use Rattle.group_table.proofs.LayoutLemmas.{length-laid_out}
use Rattle.group_table.proofs.TableLemmas.{IsTable-by}
use Rattle.group_table.proofs.table.Table.has_bucket.Goals as goal

pub returns-clause-value : goal.returns-clause-value
returns-clause-value g c =
    let t = c.self.inside in
    let buckets : buckets_of t.control ≡ length (slots_of t.control t.entries) =
    omega (arith, length-laid_out _ _ c.self.invariant.0.laid_out) in
    rw (← c.self.view_is) (c.has_bucket.ensures ∙ ap (nat_lt c.args.b) buckets)

pub returns-clause-table : goal.returns-clause-table
returns-clause-table g c = rw (← c.self.view_is) (IsTable-by _ _ _ c.self.invariant.0)

pub has_bucket-requires : goal.has_bucket-requires
has_bucket-requires g c = omega (
  arith,
  length-laid_out _ _ c.self.invariant.0.laid_out,
  rw (← c.self.view_is) at c.requires,
)
