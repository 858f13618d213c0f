use Rattle.std.proofs.Common.{sym, ap, ◌∙◌, subst, length}
use Rattle.lru_trace.specs.Counted.{IsOf}
use Rattle.lru_trace.proofs.Numbered.{keys_named}
use Rattle.lru_trace.proofs.curve.Curve.keys.Goals as goal

pub returns-clause-all : goal.returns-clause-all
returns-clause-all c = λ warm trace of.
    let now : IsOf warm trace _ = subst (IsOf warm trace) (sym c.self.view_is) of in
    c.self.invariant.firsts ∙ ap length now.order
    ∙ sym (keys_named c.self.inside.names warm trace now.before now.numbers now.warmed now.named)
