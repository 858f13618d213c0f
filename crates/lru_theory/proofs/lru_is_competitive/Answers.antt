use Rattle.std.proofs.Common.{◌≡◌, ◌+◌, ◌-◌, ◌*◌, ◌≤◌, take, length, subst, arith}
use Rattle.lru_theory.specs.Traces.{recency, faults, misses}
use Rattle.lru_theory.specs.Policies.{Loads, Bypasses}
use Rattle.lru_theory.proofs.Lists.{faults_is}
use Rattle.lru_theory.proofs.Bounds.{bound}
use Rattle.lru_theory.proofs.OtherPolicies.{loads_gains, bypasses_gains, served_loads}
use Rattle.lru_theory.proofs.lru_is_competitive.Goals as goal

pub returns : goal.returns
returns g c =
    let eq = g.K.PartialEq.eq in
    let laws = g.met.K.Eq.laws in
    record {
      loads = λ k h past trace first left paid less run.
          let xs = take k (recency eq past) in
          subst (λ n. (k + 1 - h) * n ≤ k * paid + (k + 1 - h) * length first) (faults_is laws k past trace)
          (bound laws k h 1 (omega arith) (Loads eq h) (loads_gains laws k h) (faults eq k xs trace) trace xs first left
          paid (omega arith) less run);
      demands = λ k h past trace first left paid less fits run.
          let xs = take k (recency eq past) in
          subst (λ n. (k + 1 - h) * n ≤ k * paid + (k + 1 - h) * length first) (faults_is laws k past trace)
          (bound laws k h 1 (omega arith) (Loads eq h) (loads_gains laws k h) (faults eq k xs trace) trace xs first left
          paid (omega arith) less (served_loads laws h left trace first paid fits run));
      bypasses = λ k h past trace first left paid less run.
          let xs = take k (recency eq past) in
          let zero : k + 0 - h ≡ k - h = omega arith in
          subst (λ d. d * misses eq k past trace ≤ k * paid + d * length first) zero
          (subst (λ n. (k + 0 - h) * n ≤ k * paid + (k + 0 - h) * length first) (faults_is laws k past trace)
          (bound laws k h 0 (omega arith) (Bypasses eq h) (bypasses_gains laws k h) (faults eq k xs trace) trace xs first
          left paid (omega arith) less run));
    }
