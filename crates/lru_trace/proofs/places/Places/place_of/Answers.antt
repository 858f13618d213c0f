use Rattle.std.proofs.Common.{◌≡◌, refl, sym, ap, ◌∙◌, true, false, Some, nat_eq, length}
use Rattle.std.specs.Option.{unwrap_or}
use Rattle.lru_theory.specs.Places.{keys_in, place_of}
use Rattle.lru_theory.specs.Traces.{is_in, since}
use Rattle.lru_trace.specs.Places.{is_free}
use Rattle.lru_trace.proofs.CurveSteps.{place, plain_place}
use Rattle.lru_trace.proofs.Marks.{in_marks, place_is}
use Rattle.lru_trace.proofs.places.Places.place_of.Goals.{After-self}
use Rattle.lru_trace.proofs.places.Places.place_of.Goals as goal

inside : (c : After-self) → (is_in nat_eq c.args.key c.self.inside.distances.recency ≡ true)
    × (is_free c.self.inside.free.entries c.self.inside.times.items c.args.key ≡ false)
inside c = in_marks (is_free c.self.inside.free.entries c.self.inside.times.items) c.args.key
    c.self.inside.distances.recency (ap (λ ps. is_in nat_eq c.args.key (keys_in ps)) c.self.view_is ∙ c.requires)

pub position-requires : goal.position-requires
position-requires c = c.self.invariant.known c.args.key (inside (goal.at.position-requires c).After-self).0

pub returns : goal.returns
returns c =
    let at = inside (goal.at.returns c).After-self in
    let recency = c.self.inside.distances.recency in
    let here : place c.args.key recency ≡ Some (length (since nat_eq c.args.key recency)) = rw at.0 refl in
    c.unwrap_or.ensures ∙ ap (λ o. unwrap_or o 0) (c.position.ensures
    ∙ plain_place c.self.inside.distances.weights c.args.key recency c.self.invariant.plain ∙ here)
    ∙ sym (place_is (is_free c.self.inside.free.entries c.self.inside.times.items) c.args.key recency at.1 at.0)
    ∙ ap (place_of (nat_eq c.args.key)) c.self.view_is
