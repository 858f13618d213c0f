use Rattle.std.proofs.Common.{◌≡◌, ℕ, List, ◌∷◌, ◌++◌, [], Some, sym, subst, ap, ◌∙◌}
use Rattle.std.proofs.lemmas.Result.{on_ok_weaker, on_err_weaker}
use Rattle.lru_trace.specs.Counted.{IsOf}
use Rattle.lru_trace.specs.Names.{number_in}
use Rattle.lru_trace.proofs.CurveSteps.{of_made, always_err, of_warm}
use Rattle.lru_trace.proofs.curve.Curve.warm_up.Goals.{After-make_count}
use Rattle.lru_trace.proofs.curve.Curve.warm_up.Goals as goal

made : (c : After-make_count) (warm past : List (List ℕ)) → IsOf warm past c.args.self.now
    → IsOf warm past c.make_count.new.self
made c warm past of = of_made of c.number_of.new.self c.make_count.new.self c.number_of.ensures.rest
    c.number_of.ensures.others c.make_count.ensures.rest c.make_count.ensures.hits

named : (c : After-make_count) → number_in c.make_count.new.self.names c.args.key.now ≡ Some c.in_ok-number.number
named c = ap (λ v. number_in v.names c.args.key.now) c.make_count.ensures.rest ∙ c.in_ok-number.ensures.number

pub returns-in_err-make_count-clause-err : goal.returns-in_err-make_count-clause-err
returns-in_err-make_count-clause-err c = always_err c.from_residual-in_err-make_count.result
    (made (goal.at.returns-in_err-make_count-clause-err c).After-make_count)

pub place-requires-clause-number : goal.place-requires-clause-number
place-requires-clause-number c = (c.args.key.now, named (goal.at.place-requires-clause-number c).After-make_count)

pub returns-clause-ok : goal.returns-clause-ok
returns-clause-ok c = on_ok_weaker c.place.result (λ same warm of.
    let at = (goal.at.returns-clause-ok c).After-make_count in
    subst (IsOf (warm ++ c.args.key.now ∷ []) []) (sym same)
    (of_warm (made at warm [] of) c.args.key.now c.in_ok-number.number (named at))) c.place.ensures.ok

pub returns-clause-err : goal.returns-clause-err
returns-clause-err c = on_err_weaker c.place.result (λ same warm past of.
    subst (IsOf warm past) (sym same) (made (goal.at.returns-clause-err c).After-make_count warm past of))
    c.place.ensures.err
