use Rattle.std.proofs.Common.{◌++◌, ◌∷◌, [], sym, subst}
use Rattle.lru_theory.specs.Inclusion.{refers}
use Rattle.lru_trace.specs.Deletes.{IsDeleteOf, places_of}
use Rattle.lru_trace.proofs.CurveSteps.{always_err}
use Rattle.lru_trace.proofs.DeleteSteps.{of_same, of_counts, of_warm_referred}
use Rattle.lru_trace.proofs.delete_curve.DeleteCurve.warm_up.Goals as goal

pub returns-in_err-place-clause-err : goal.returns-in_err-place-clause-err
returns-in_err-place-clause-err c = always_err c.from_residual-in_err-place.result (λ warm trace of.
    of_same (of_counts of c.make_count.new.self c.make_count.ensures.rest c.make_count.ensures.hits) c.place.new.self
    c.in_err-place.ensures.err)

pub returns-clause-ok : goal.returns-clause-ok
returns-clause-ok c = λ warm of.
    let placed = c.in_ok-place.ensures.ok in
    let mid = of_counts of c.make_count.new.self c.make_count.ensures.rest c.make_count.ensures.hits in
    subst (IsDeleteOf (warm ++ refers c.args.key.now ∷ []) []) (sym placed.rest)
    (of_warm_referred mid c.args.key.now c.place.new.self.names c.place.new.self.places
    (placed.numbers (places_of warm []) mid.placed))
