use Rattle.std.proofs.Common.{replicate, None, ap, ◌∙◌, arith}
use native.Mathlib.Decide.{dec_lt}
use Rattle.group_table.proofs.CopyLemmas.{replicate-from}
use Rattle.group_table.proofs.fields.drop_first.Goals as goal

pub returns : goal.returns
returns g c = replicate-from c.loop-b.entries None None (λ k within. elim (dec_lt k c.args.count) [
  | yes p ↦ c.loop-b.invariant.freed k (omega arith)
  | no p ↦ c.loop-b.invariant.rest k (omega arith) ∙ c.requires.others k (omega arith)
]) ∙ ap (λ n. replicate n None) c.loop-b.invariant.same
