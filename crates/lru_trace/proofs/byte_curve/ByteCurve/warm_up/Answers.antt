use Rattle.std.proofs.Common.{◌++◌, ◌∷◌, [], sym, subst}
use Rattle.lru_trace.specs.Sized.{IsSizedOf}
use Rattle.lru_trace.proofs.CurveSteps.{if_passed}
use Rattle.lru_trace.proofs.SizedSteps.{of_warm}
use Rattle.lru_trace.proofs.SizedTotals.{warm_large}
use Rattle.lru_trace.proofs.byte_curve.ByteCurve.warm_up.Goals as goal

pub returns-clause-ok : goal.returns-clause-ok
returns-clause-ok c = λ warm of.
    subst (IsSizedOf (warm ++ (c.args.key.now, c.args.bytes) ∷ []) []) (sym c.make.ensures.rest)
    (of_warm of c.args.key.now c.args.bytes c.in_ok-make.field-0 c.make.new.self c.in_ok-make.ensures.made)

pub returns-in_err-make-clause-large : goal.returns-in_err-make-clause-large
returns-in_err-make-clause-large c =
    if_passed c.from_residual.result c.in_err-make.field-0.0 _ c.from_residual.ensures (λ is warm of.
    let large = c.in_err-make.ensures.large is in
    warm_large of c.args.key.now c.args.bytes large.0 large.1)
