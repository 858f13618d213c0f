use Rattle.std.proofs.Common.{◌+◌, inr, arith}
use Rattle.std.proofs.lemmas.List.{length-replicate}
use Rattle.group_table.specs.Bytes.{empty_byte}
use Rattle.group_table.proofs.SizeLemmas.{power_pos}
use Rattle.group_table.proofs.ControlLemmas.{IsCircle-empty}
use Rattle.group_table.proofs.control.Control.with_buckets.Goals as goal

pub invariant_of-result : goal.invariant_of-result
invariant_of-result c = rw (c.in_ok-bytes.ensures.items_if_clones_equal (λ y same. same)) (inr (
  IsCircle-empty c.args.buckets c.requires.count c.requires.addressable,
  omega (arith, power_pos _ c.requires.count, length-replicate (c.args.buckets + 16) empty_byte),
))
