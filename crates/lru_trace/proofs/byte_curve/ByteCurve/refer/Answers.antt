use Rattle.std.proofs.Common.{◌≡◌, ℕ, set, get_or, ◌+◌, ◌<◌, ◌++◌, ◌∷◌, [], length, sym, ap, ◌∙◌, subst}
use Rattle.std.specs.Prelude.{nat_lt}
use Rattle.lru_trace.specs.Sized.{Sized, IsSizedOf, exceeds}
use Rattle.lru_trace.proofs.CurveSteps.{if_passed}
use Rattle.lru_trace.proofs.SizedSteps.{of_counted}
use Rattle.lru_trace.proofs.SizedTotals.{counted_large}
use Rattle.lru_trace.proofs.byte_curve.ByteCurve.refer.Goals as goal

pub returns-clause-ok : goal.returns-clause-ok
returns-clause-ok c = λ warm trace of.
    let counts = c.count.ensures.counts in
    let limits : c.make.new.self.limits ≡ c.args.self.now.limits = ap (λ v. v.limits) c.make.ensures.rest in
    let below = subst (λ ls. (i : ℕ) → i < length ls → nat_lt i counts.0 ≡ exceeds c.in_ok-need.need (get_or ls i 0))
    limits counts.2 in
    let within = subst (λ cs. counts.0 < length cs) (ap (λ v. v.counts) c.make.ensures.rest) counts.1 in
    let same = counts.3 ∙ ap {A = Sized} {B = Sized} (λ v. record v {
      counts = set v.counts counts.0 (get_or v.counts counts.0 0 + 1);
      references = v.references + 1;
    }) c.make.ensures.rest in
    subst (IsSizedOf warm (trace ++ (c.args.key.now, c.args.bytes) ∷ [])) (sym same)
    (of_counted of c.args.key.now c.args.bytes c.in_ok-need.need c.make.new.self c.in_ok-need.ensures.made counts.0
    within below)

pub returns-in_err-need-clause-large : goal.returns-in_err-need-clause-large
returns-in_err-need-clause-large c =
    if_passed c.from_residual.result c.in_err-need.field-0.0 _ c.from_residual.ensures (λ is warm trace of.
    let large = c.in_err-need.ensures.large is in
    counted_large of c.args.key.now c.args.bytes large.0 large.1)
