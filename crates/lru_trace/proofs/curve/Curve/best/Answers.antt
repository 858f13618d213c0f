use Rattle.std.proofs.Common.{◌≡◌, subst, sym, ap, ◌∙◌}
use Rattle.std.specs.Prelude.{nat_eq}
use Rattle.lru_trace.specs.Counted.{IsOf}
use Rattle.lru_trace.specs.Names.{number_in}
use Rattle.lru_trace.specs.Times.{next_times}
use Rattle.lru_trace.proofs.Numbered.{next_times_named, named_from}
use Rattle.lru_trace.proofs.curve.Curve.best.Goals as goal

pub returns-in_ok-new-in-Some-clause-all : goal.returns-in_ok-new-in-Some-clause-all
returns-in_ok-new-in-Some-clause-all c = λ warm trace of.
    let now : IsOf warm trace _ = subst (IsOf warm trace) (sym c.self.view_is) of in
    let numbers : c.in-Some.kept.items ≡ now.numbers = rw c.in-Some.is at now.kept in
    c.in_ok-new-in-Some.ensures ∙ ap (next_times nat_eq 0) (c.deref.ensures.value ∙ numbers)
    ∙ sym (next_times_named c.self.inside.names 0 trace now.numbers
    (named_from (number_in c.self.inside.names) trace now.numbers now.named))
