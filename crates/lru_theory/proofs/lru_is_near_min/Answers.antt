use Rattle.std.proofs.Common.{◌≡◌, ◌+◌, ◌-◌, ◌*◌, ◌≤◌, ◌<◌, ℕ, zero, suc, Bool, List, [], take, subst, arith}
use Rattle.std.specs.Cmp.{IsEquivalence}
use Rattle.lru_theory.specs.Traces.{recency, faults, misses}
use Rattle.lru_theory.specs.Policies.{Loads, Bypasses}
use Rattle.lru_theory.specs.Best.{min_misses, bypass_misses}
use Rattle.lru_theory.proofs.Lists.{faults_is}
use Rattle.lru_theory.proofs.Bounds.{bound}
use Rattle.lru_theory.proofs.OtherPolicies.{loads_gains, bypasses_gains}
use Rattle.lru_theory.proofs.BestMisses.{min_best}
use Rattle.lru_theory.proofs.BestRuns.{min_run_of, bypass_run, lru_run}
use Rattle.lru_theory.proofs.lru_is_near_min.Goals as goal

least_of : {K : Type 0} {eq : K → K → Bool} (laws : IsEquivalence eq) (n : ℕ) (trace : List K) → 0 < n
    → min_misses eq n trace ≤ misses eq n [] trace
least_of laws zero trace some = absurd (omega (arith, some))
least_of {eq = eq} laws (suc n) trace some =
    let (left, run) = lru_run laws n trace [] in
    subst (λ m. min_misses eq (suc n) trace ≤ m) (faults_is laws (suc n) [] trace)
    (min_best laws (suc n) trace left (faults eq (suc n) [] trace) run)

pub returns : goal.returns
returns g c =
    let eq = g.K.PartialEq.eq in
    let laws = g.met.K.Eq.laws in
    record {
      min = λ k h past trace some less.
          let (left, run) = min_run_of laws h trace some in
          let xs = take k (recency eq past) in
          let all = bound laws k h 1 (omega arith) (Loads eq h) (loads_gains laws k h) (faults eq k xs trace) trace xs []
          left (min_misses eq h trace) (omega arith) less run in
          subst (λ n. (k + 1 - h) * n ≤ k * min_misses eq h trace) (faults_is laws k past trace) (omega (arith, all));
      bypass = λ k h past trace less.
          let (left, run) = bypass_run laws h trace [] in
          let xs = take k (recency eq past) in
          let zero : k + 0 - h ≡ k - h = omega arith in
          let all = bound laws k h 0 (omega arith) (Bypasses eq h) (bypasses_gains laws k h) (faults eq k xs trace) trace xs
          [] left (bypass_misses eq h trace) (omega arith) less run in
          subst (λ d. d * misses eq k past trace ≤ k * bypass_misses eq h trace) zero
          (subst (λ n. (k + 0 - h) * n ≤ k * bypass_misses eq h trace) (faults_is laws k past trace) (omega (arith, all)));
      least = least_of laws;
    }
