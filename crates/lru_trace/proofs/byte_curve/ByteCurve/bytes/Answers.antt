use Rattle.std.proofs.Common.{sym, ap, ◌∙◌}
use Rattle.lru_trace.specs.Sized.{total_of}
use Rattle.lru_trace.proofs.SizedTotals.{all_bytes}
use Rattle.lru_trace.proofs.byte_curve.ByteCurve.bytes.Goals as goal

pub returns : goal.returns
returns c = λ warm trace of. c.self.invariant.whole ∙ ap total_of c.self.view_is ∙ sym (all_bytes of)
