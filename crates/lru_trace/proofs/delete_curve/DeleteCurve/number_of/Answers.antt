use Rattle.std.proofs.Common.{◌≡◌, true, sym, ap, ◌∙◌, subst, nat_eq}
use Rattle.std.specs.Prelude.{IfSome}
use Rattle.lru_theory.specs.Places.{keys_in}
use Rattle.lru_theory.specs.Traces.{is_in}
use Rattle.lru_trace.specs.Deletes.{place_number}
use Rattle.lru_trace.proofs.PlaceNumbers.{stored_there}
use Rattle.lru_trace.proofs.delete_curve.DeleteCurve.number_of.Goals as goal

pub returns-clause-there : goal.returns-clause-there
returns-clause-there c =
    subst (λ ps. IfSome c.copied.result (λ n. is_in nat_eq n (keys_in ps) ≡ true)) (ap (λ v. v.places) c.self.view_is)
    (stored_there (place_number c.self.inside.numbers.entries) c.args.key.now c.self.inside.places
    (c.self.invariant.within c.args.key.now) c.copied.result (sym c.get.ensures.value ∙ sym c.copied.ensures))
