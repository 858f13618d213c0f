use Rattle.std.proofs.Common.{◌≡◌, ◌+◌, ◌++◌, ◌∷◌, [], sym, ap, ◌∙◌, subst, arith, length}
use Rattle.lru_theory.specs.Inclusion.{refers}
use Rattle.lru_trace.specs.Deletes.{IsDeleteOf, counted_at, places_of}
use Rattle.lru_trace.proofs.CurveSteps.{always_err}
use Rattle.lru_trace.proofs.DeleteSteps.{of_same, of_counts, of_referred}
use Rattle.lru_trace.proofs.PlaceNumbers.{if_fewer}
use Rattle.lru_trace.proofs.delete_curve.DeleteCurve.refer.Goals as goal

pub returns-in_err-place-clause-err : goal.returns-in_err-place-clause-err
returns-in_err-place-clause-err c = always_err c.from_residual-in_err-place.result (λ warm trace of.
    of_same (of_counts of c.make_count.new.self c.make_count.ensures.rest c.make_count.ensures.hits) c.place.new.self
    c.in_err-place.ensures.err)

pub count-requires-clause-within : goal.count-requires-clause-within
count-requires-clause-within c =
    let placed = c.in_ok-place.ensures.ok in
    if_fewer c.in_ok-place.place (length c.make_count.new.self.places) (length c.place.new.self.counts) placed.within
    (omega (arith, c.in_ok-make_count.ensures.spare, ap (λ v. length v.counts) placed.rest))

pub returns-clause-ok : goal.returns-clause-ok
returns-clause-ok c = λ warm trace of.
    let placed = c.in_ok-place.ensures.ok in
    let mid = of_counts of c.make_count.new.self c.make_count.ensures.rest c.make_count.ensures.hits in
    let place = c.in_ok-place.place in
    let new = c.place.new.self in
    let same : c.count.new.self ≡ record {
      names = new.names;
      places = new.places;
      counts = counted_at place c.make_count.new.self.counts;
      references = c.make_count.new.self.references + 1;
    } = c.count.ensures ∙ (λ i. record {
      names = new.names;
      places = new.places;
      counts = counted_at place (ap (λ v. v.counts) placed.rest i);
      references = ap (λ v. v.references) placed.rest i + 1;
    }) in
    subst (IsDeleteOf warm (trace ++ refers c.args.key.now ∷ [])) (sym same)
    (of_referred mid c.args.key.now place (placed.found (places_of warm trace) mid.placed)
    (if_fewer place (length c.make_count.new.self.places) (length c.make_count.new.self.counts) placed.within
    (omega (arith, c.in_ok-make_count.ensures.spare))) new.names new.places
    (placed.numbers (places_of warm trace) mid.placed))
