use Rattle.std.proofs.Common.{◌≡◌, ◌+◌, ◌<◌, ◌++◌, ◌∷◌, [], Some, None, refl, sym, ap, ◌∙◌, subst, arith, nat_eq}
use Rattle.std.proofs.Common.{inl, inr, false, rules}
use Rattle.std.specs.Prelude.{sum_by, ◌^◌}
use Rattle.std.specs.Set.{remove_key}
use Rattle.lru_theory.specs.Traces.{is_in}
use Rattle.lru_trace.specs.Names.{number_in}
use Rattle.lru_trace.specs.Slots.{weight_in}
use Rattle.lru_trace.proofs.Numbered.{small, found_more, kept_more, cases}
use Rattle.lru_trace.proofs.SizedKeys.{sum_added, size_kept, size_added, absent}
use Rattle.lru_trace.proofs.SizedRecency.{added}
use Rattle.std.proofs.lemmas.Option.{none-some}
use Rattle.lru_trace.proofs.byte_curve.ByteCurve.add.Goals.{In_ok-number}
use Rattle.lru_trace.proofs.byte_curve.ByteCurve.add.Goals as goal

next : (c : In_ok-number) → c.in_ok-number.number ≡ c.self.inside.distances.keys
next c = c.in_ok-number.ensures.key ∙ c.in_ok-reserve.ensures.keys

recent : (c : In_ok-number) → c.add_weighed_key.new.self.recency ≡ c.self.inside.distances.recency
recent c = c.in_ok-number.ensures.recency ∙ c.in_ok-reserve.ensures.recency

weighed : (c : In_ok-number) → c.add_weighed_key.new.self.weights ≡ c.self.inside.distances.weights ++ c.args.bytes ∷ []
weighed c = c.in_ok-number.ensures.weights ∙ ap (λ ws. ws ++ c.args.bytes ∷ []) c.in_ok-reserve.ensures.weights

pub refer-requires-clause-fits : goal.refer-requires-clause-fits
refer-requires-clause-fits c =
    let at = (goal.at.refer-requires-clause-fits c).In_ok-number in
    let d = c.self.inside.distances in
    let is = c.self.invariant in
    let number = c.in_ok-number.number in
    let all : sum_by (weight_in c.add_weighed_key.new.self.weights) (number ∷ remove_key (nat_eq number)
    c.add_weighed_key.new.self.recency) ≡ sum_by (weight_in d.weights) d.recency + c.args.bytes =
    (λ i. sum_by (weight_in (weighed at i)) (number ∷ remove_key (nat_eq number) (recent at i)))
    ∙ sum_added d.weights c.args.bytes d.recency (λ n e. omega (arith, is.within n e, is.aligned)) number
    (omega (arith, next at, is.aligned)) in
    subst (λ n. n < 2 ^ 64) (sym all) (omega (arith, is.whole, c.in-Some.ensures.0))

pub invariant_of-self-2 : goal.invariant_of-self-2
invariant_of-self-2 c =
    let at = (goal.at.invariant_of-self-2 c).In_ok-number in
    let number = c.in_ok-number.number in
    let names : c.add.new.self ≡ c.self.inside.names ++ c.args.key.now ∷ [] = search rules in
    rw names (added c.self.invariant c.refer.new.self number c.args.bytes (next at)
    (c.in_ok-refer.ensures.weights ∙ weighed at)
    (c.in_ok-refer.ensures.keys ∙ c.in_ok-number.ensures.keys ∙ ap (λ n. n + 1) c.in_ok-reserve.ensures.keys)
    c.args.key.now
    (c.in_ok-refer.ensures.recency ∙ ap (λ xs. number ∷ remove_key (nat_eq number) xs) (recent at))
    c.in-Some.total c.in-Some.ensures.1 (omega (arith, c.in-Some.ensures.0, c.in-Some.ensures.1)))

pub returns-clause-made : goal.returns-clause-made
returns-clause-made c =
    let at = (goal.at.returns-clause-made c).In_ok-number in
    let is = c.self.invariant in
    let old = c.self.inside.names in
    let key = c.args.key.now in
    let d = c.self.inside.distances in
    let number = c.in_ok-number.number in
    let none : number_in old key ≡ None = ap (λ v. number_in v.names key) c.self.view_is ∙ c.requires in
    let names : c.add.new.self ≡ old ++ key ∷ [] = search rules in
    let recency = c.in_ok-refer.ensures.recency ∙ ap (λ xs. number ∷ remove_key (nat_eq number) xs) (recent at) in
    let weights = c.in_ok-refer.ensures.weights ∙ weighed at in
    let out : is_in nat_eq number d.recency ≡ false =
    absent number d.recency (λ n e. omega (arith, is.within n e, next at)) in
    rw (← c.self.view_is, names, recency, weights) (record {
      number = number;
      named = found_more old key none ∙ ap Some (is.numbered ∙ sym (next at));
      others = kept_more old key;
      sizes = λ x n e. size_kept d.weights c.args.bytes n (omega (arith, small old x n e, is.numbered, is.aligned));
      first = λ _. size_added d.weights c.args.bytes number (omega (arith, next at, is.aligned));
      only = λ x n e unnamed. elim (cases old key x n e) [
        | inl h ↦ h.0
        | inr h ↦ absurd (none-some n (sym unnamed ∙ h))
      ];
      recency = refl;
      needs = rw out refl;
    })
