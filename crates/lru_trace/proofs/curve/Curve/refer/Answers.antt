use Rattle.std.proofs.Common.{◌≡◌, ℕ, List, sym, subst, ap, ◌∙◌}
use Rattle.lru_trace.specs.Counted.{IsOf}
use Rattle.lru_trace.proofs.CurveSteps.{of_made, always_err, kept_still, forgotten, kept_some}
use Rattle.std.specs.Prelude.{is_some}
use Rattle.lru_trace.proofs.curve.Curve.refer.Goals.{After-make_count}
use Rattle.lru_trace.proofs.curve.Curve.refer.Goals as goal

made : (c : After-make_count) (warm past : List (List ℕ)) → IsOf warm past c.args.self.now
    → IsOf warm past c.make_count.new.self
made c warm past of = of_made of c.number_of.new.self c.make_count.new.self c.number_of.ensures.rest
    c.number_of.ensures.others c.make_count.ensures.rest c.make_count.ensures.hits

pub returns-in_err-make_count-clause-err : goal.returns-in_err-make_count-clause-err
returns-in_err-make_count-clause-err c = always_err c.from_residual-in_err-make_count.result
    (made (goal.at.returns-in_err-make_count-clause-err c).After-make_count)

pub returns-in_err-keep-clause-err : goal.returns-in_err-keep-clause-err
returns-in_err-keep-clause-err c = always_err c.from_residual-in_err-keep.result (λ warm past of.
    subst (IsOf warm past) (sym c.in_err-keep.ensures.err)
    (made (goal.at.returns-in_err-keep-clause-err c).After-make_count warm past of))

pub returns-in-Ok-clause-ok : goal.returns-in-Ok-clause-ok
returns-in-Ok-clause-ok c = λ warm past of.
    c.in-Ok.ensures.ok warm past c.make_count.new.self.kept c.in_ok-keep.ensures.kept
    (kept_still warm past c.make_count.new.self c.keep.new.self c.keep.ensures.rest
    (made (goal.at.returns-in-Ok-clause-ok c).After-make_count warm past of))

pub returns-in-Ok-clause-keeps : goal.returns-in-Ok-clause-keeps
returns-in-Ok-clause-keeps c =
    ap is_some c.count.ensures.kept ∙ kept_some c.make_count.new.self.kept c.in_ok-number.number c.keep.new.self.kept
    c.in_ok-keep.ensures.kept ∙ ap (λ v. is_some v.kept) c.make_count.ensures.rest
    ∙ ap (λ v. is_some v.kept) c.number_of.ensures.rest

pub returns-in-Err-clause-err : goal.returns-in-Err-clause-err
returns-in-Err-clause-err c = λ warm past of.
    let same = c.in-Err.ensures.err in
    let kept = forgotten c.make_count.new.self.kept c.in_ok-number.number c.count.new.self.kept c.forget.new.self.kept
    (ap (λ v. v.kept) same ∙ c.in_ok-keep.ensures.kept) c.forget.ensures.kept c.forget.ensures.none in
    let back : c.forget.new.self ≡ record c.keep.new.self { kept = c.make_count.new.self.kept } =
    c.forget.ensures.rest ∙ (λ j. record (same j) { kept = kept j }) in
    subst (IsOf warm past) (sym back) (kept_still warm past c.make_count.new.self c.keep.new.self c.keep.ensures.rest
    (made (goal.at.returns-in-Err-clause-err c).After-make_count warm past of))
