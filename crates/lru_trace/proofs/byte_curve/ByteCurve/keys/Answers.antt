use Rattle.std.proofs.Common.{sym, ap, ◌∙◌, subst, length}
use Rattle.std.specs.Map.{keys_of}
use Rattle.lru_trace.specs.Sized.{IsSizedOf}
use Rattle.lru_trace.proofs.Numbered.{keys_named}
use Rattle.lru_trace.proofs.byte_curve.ByteCurve.keys.Goals as goal

pub returns : goal.returns
returns c = λ warm trace of.
    let now : IsSizedOf warm trace _ = subst (IsSizedOf warm trace) (sym c.self.view_is) of in
    c.referenced.ensures ∙ ap length now.order
    ∙ sym (keys_named c.self.inside.names (keys_of warm) (keys_of trace) now.before now.numbers now.warmed now.named)
