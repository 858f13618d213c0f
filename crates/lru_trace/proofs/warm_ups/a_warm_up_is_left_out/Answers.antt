use Rattle.std.proofs.Common.{◌≡◌, ℕ, ◌+◌, Bool, List, [], ◌∷◌, ◌++◌, take, sym, ap, ◌∙◌, arith}
use Rattle.std.proofs.lemmas.List.{take_all}
use Rattle.lru_theory.specs.Traces.{misses, recency, cached, faults, past_after}
use Rattle.lru_theory.proofs.Lists.{cached_is, faults_is}
use Rattle.lru_trace.proofs.warm_ups.a_warm_up_is_left_out.Goals as goal

both : {K : Type 0} (eq : K → K → Bool) (n : ℕ) (past warm trace : List K)
    → misses eq n past (warm ++ trace) ≡ misses eq n past warm + misses eq n (past_after past warm) trace
both eq n past [] trace = omega arith
both eq n past (key ∷ warm) trace = omega (arith, both eq n (key ∷ past) warm trace)

pub returns : goal.returns
returns g c = record {
  minus = λ n warm trace. omega (arith, both g.K.PartialEq.eq n [] warm trace);
  faults = λ n warm trace.
      let eq = g.K.PartialEq.eq in
      let none : take n (recency eq []) ≡ [] = take_all n [] (omega arith) in
      let kept : cached eq n [] warm ≡ take n (recency eq (past_after [] warm)) =
      ap (λ keys. cached eq n keys warm) (sym none) ∙ cached_is eq n [] warm in
      sym (faults_is g.met.K.Eq.laws n (past_after [] warm) trace) ∙ ap (λ keys. faults eq n keys trace) (sym kept);
}
