use Rattle.std.proofs.Common.{sym, ◌∙◌}
use Rattle.std.proofs.lemmas.Bool.{false≢true}
use Rattle.std.proofs.lemmas.Result.{on_ok_weaker}
use Rattle.lru_trace.proofs.curves.AnyCurve.refer.Goals as goal

pub returns-then-warm-clause-ok : goal.returns-then-warm-clause-ok
returns-then-warm-clause-ok c = on_ok_weaker c.warm_up.result (λ h. record {
  counted = λ e. absurd (false≢true (sym e ∙ c.if-warm.true));
  warmed = λ e. h;
}) c.warm_up.ensures.ok

pub returns-clause-ok : goal.returns-clause-ok
returns-clause-ok c = on_ok_weaker c.count.result (λ h. record {
  counted = λ e. h;
  warmed = λ e. absurd (false≢true (sym c.if-warm.false ∙ e));
}) c.count.ensures.ok
