use Rattle.std.proofs.Common.{◌≡◌, ◌<◌, ℕ, Option, Some, None, true, false, length, refl, sym, ap, ◌∙◌, arith}
use Rattle.std.specs.Prelude.{is_some, not}
use Rattle.lru_trace.specs.Counted.{AreAdded}
use Rattle.lru_trace.specs.Names.{number_in}
use Rattle.lru_trace.proofs.Numbered.{small}
use Rattle.lru_trace.proofs.SizedKeys.{all_added}
use Rattle.lru_trace.proofs.CurveSteps.{place, plain_fits, plain_place, found_length, first_length}
use Rattle.lru_trace.proofs.curve.Curve.place.Goals.{After-self, In_ok-refer, After-is_none}
use Rattle.lru_trace.proofs.curve.Curve.place.Goals as goal

spare : (c : After-self) → length c.self.inside.distances.recency < length c.self.inside.counts.items
spare c = omega (
  arith,
  c.requires.spare,
  ap (λ v. length v.recency) c.self.view_is,
  ap (λ v. length v.counts) c.self.view_is,
)

still_added : (c : In_ok-refer) → AreAdded c.refer.new.self
still_added c =
    let (key, named) = c.requires.number in
    let inside = small c.self.inside.names key c.args.number (ap (λ v. number_in v.names key) c.self.view_is ∙ named) in
    all_added c.args.number c.self.inside.distances c.refer.new.self c.self.invariant.within
    c.in_ok-refer.ensures.recency (omega (arith, inside, c.self.invariant.numbered, c.in_ok-refer.ensures.keys))
    (omega (arith, c.in_ok-refer.ensures.keys))

is_placed : (c : After-is_none) → is_some (place c.args.number c.self.inside.distances.recency) ≡ not c.is_none.result
is_placed c = ap is_some (sym (c.in_ok-refer.ensures.distance
    ∙ plain_place c.self.inside.distances.weights c.args.number c.self.inside.distances.recency c.self.invariant.plain))
    ∙ c.is_none.ensures

pub refer-requires-clause-fits : goal.refer-requires-clause-fits
refer-requires-clause-fits c =
    plain_fits c.self.inside.distances.weights c.args.number c.self.inside.distances.recency c.self.invariant.plain
    (omega (
      arith,
      spare (goal.at.refer-requires-clause-fits c).After-self,
      c.self.inside.counts.ok.0,
      c.self.inside.counts.small,
    ))

pub invariant_of-self-then-is_none : goal.invariant_of-self-then-is_none
invariant_of-self-then-is_none c =
    let at = goal.at.invariant_of-self-then-is_none c in
    let is = c.self.invariant in
    let recency = c.self.inside.distances.recency in
    let none = without (place c.args.number recency) (is_placed at.After-is_none ∙ ap not c.if-is_none.true) in
    let long = first_length c.args.number recency none in
    record {
      numbered = is.numbered ∙ sym c.in_ok-refer.ensures.keys;
      within = still_added at.In_ok-refer;
      firsts = omega (arith, is.firsts, long, ap length c.in_ok-refer.ensures.recency);
      few = omega (arith, is.firsts, spare at.After-self);
      total = is.total;
      plain = c.in_ok-refer.ensures.weights ∙ is.plain;
    }
  where
    without : (o : Option ℕ) → is_some o ≡ false → o ≡ None
    without None e = refl
    without (Some n) e = absurd cc

pub invariant_of-self-else-is_none : goal.invariant_of-self-else-is_none
invariant_of-self-else-is_none c =
    let at = goal.at.invariant_of-self-else-is_none c in
    let is = c.self.invariant in
    let recency = c.self.inside.distances.recency in
    let (d, some) = within (place c.args.number recency)
    (is_placed at.After-is_none ∙ ap not c.if-is_none.false) in
    let long = found_length c.args.number d recency some in
    record {
      numbered = is.numbered ∙ sym c.in_ok-refer.ensures.keys;
      within = still_added at.In_ok-refer;
      firsts = is.firsts ∙ sym long.0 ∙ ap length (sym c.in_ok-refer.ensures.recency);
      few = is.few;
      total = is.total;
      plain = c.in_ok-refer.ensures.weights ∙ is.plain;
    }
  where
    within : (o : Option ℕ) → is_some o ≡ true → (d : ℕ) × (o ≡ Some d)
    within None e = absurd cc
    within (Some n) e = (n, refl)
