use Rattle.std.proofs.Common.{◌≡◌, refl, Some, sym, ap, ◌∙◌, arith, nat_eq}
use Rattle.std.specs.Prelude.{sum_by}
use Rattle.lru_theory.specs.Traces.{is_in, since}
use Rattle.lru_trace.specs.Slots.{weight_in, position}
use Rattle.std.proofs.lemmas.Option.{same_Some}
use Rattle.lru_trace.proofs.SizedKeys.{needs_few, moved_sum}
use Rattle.lru_trace.proofs.SizedRecency.{moved, unmoved}
use Rattle.lru_trace.proofs.byte_curve.ByteCurve.find.Goals as goal

pub refer-requires-clause-key : goal.refer-requires-clause-key
refer-requires-clause-key c =
    let there = ap (λ v. is_in nat_eq c.args.number v.recency) c.self.view_is ∙ c.requires in
    c.self.invariant.within c.args.number there

pub refer-requires-clause-fits : goal.refer-requires-clause-fits
refer-requires-clause-fits c =
    let d = c.self.inside.distances in
    let there = ap (λ v. is_in nat_eq c.args.number v.recency) c.self.view_is ∙ c.requires in
    omega (
      arith,
      moved_sum (weight_in d.weights) c.args.number d.recency there,
      c.self.invariant.whole,
      c.self.invariant.small,
    )

pub overflow_add-result : goal.overflow_add-result
overflow_add-result c =
    let d = c.self.inside.distances in
    let there = ap (λ v. is_in nat_eq c.args.number v.recency) c.self.view_is ∙ c.requires in
    let few = needs_few (weight_in d.weights) c.args.number d.recency there in
    let behind : position (weight_in d.weights) c.args.number d.recency
    ≡ Some (sum_by (weight_in d.weights) (since nat_eq c.args.number d.recency)) = rw there refl in
    let is = same_Some c.in-Some.behind (sum_by (weight_in d.weights) (since nat_eq c.args.number d.recency))
    (sym c.in-Some.is ∙ c.in_ok-behind.ensures.distance ∙ behind) in
    omega (arith, few, is, c.weight-size.ensures, c.self.invariant.whole, c.self.invariant.small)

pub invariant_of-self : goal.invariant_of-self
invariant_of-self c = unmoved c.self.invariant c.refer.new.self c.in_err-behind.ensures.err c.refer.ensures.keys
    c.refer.ensures.weights

pub invariant_of-self-2 : goal.invariant_of-self-2
invariant_of-self-2 c =
    let there = ap (λ v. is_in nat_eq c.args.number v.recency) c.self.view_is ∙ c.requires in
    moved c.self.invariant c.refer.new.self c.args.number there c.in_ok-behind.ensures.recency
    c.in_ok-behind.ensures.keys c.in_ok-behind.ensures.weights
