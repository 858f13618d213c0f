use Rattle.std.proofs.Common.{[], refl, sym, ◌∙◌, subst}
use Rattle.lru_trace.specs.Deletes.{IsDeleteOf, place_number, places_of}
use Rattle.lru_trace.proofs.PlaceNumbers.{long_numbers}
use Rattle.lru_trace.proofs.delete_curve.DeleteCurve.places.Goals as goal

pub returns : goal.returns
returns c = λ warm trace of.
    let now : IsDeleteOf warm trace _ = subst (IsDeleteOf warm trace) (sym c.self.view_is) of in
    c.len.ensures ∙ sym (long_numbers (place_number c.self.inside.numbers.entries) c.self.invariant.apart [] _ refl
    (places_of warm trace) c.self.inside.places now.placed)
