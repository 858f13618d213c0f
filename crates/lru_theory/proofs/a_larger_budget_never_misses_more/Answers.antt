use Rattle.std.proofs.Common.{take}
use Rattle.lru_theory.specs.Budgets.{cached_within}
use Rattle.lru_theory.proofs.Affordable.{front_cached, front_of, front_taken, fewer_faults}
use Rattle.lru_theory.proofs.a_larger_budget_never_misses_more.Goals as goal

pub returns : goal.returns
returns g c =
    let eq = g.K.PartialEq.eq in
    record {
      front = λ cost n m some keys trace few.
          front_taken (cached_within eq cost n (take some keys) trace) (cached_within eq cost m keys trace)
          (front_cached eq cost n m few trace (take some keys) keys (front_of some keys));
      misses = λ cost n m some keys trace few.
          fewer_faults eq cost n m few trace (take some keys) keys (front_of some keys);
    }
