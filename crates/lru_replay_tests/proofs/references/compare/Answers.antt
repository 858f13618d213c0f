use Rattle.std.proofs.Common.{◌≡◌, ◌≤◌, ◌+◌, ◌-◌, ◌*◌, ◌∙◌, [], length, arith, sym, ap, subst}
use Rattle.std.specs.List.{IsDistinct}
use Rattle.std.specs.String.{string_eq}
use Rattle.lru_model.specs.Lists.{keys_of}
use Rattle.lru_replay_tests.proofs.references.compare.Goals as goal

pub returns-clause-competitive : goal.returns-clause-competitive
unfolding IsDistinct
returns-clause-competitive g c = λ h paid left few served.
    let old = c.new-small.result in let fresh = c.new-small.ensures in let count = c.in_ok-read_through.field-0 in
    let k : old.limiter ≡ c.args.lengths.0 = ap (λ st. st.limiter) fresh ∙ c.new.ensures in
    let law = c.maps_are_competitive.ensures.loads c.args.texts.now count old c.read_through.new.map h paid [] left
    (subst (λ pairs. IsDistinct string_eq (keys_of pairs)) (sym (ap (λ st. st.pairs) fresh)) tt)
    (omega (arith, ap (λ st. length st.pairs) fresh)) c.in_ok-read_through.ensures.run (omega (arith, k, few)) served in
    subst (λ k. (k + 1 - h) * count ≤ k * paid) k (omega (arith, law))
