use Rattle.std.proofs.Common.{[], zero-le}
use Rattle.lru_theory.proofs.BestMisses.{min_best, bypass_best}
use Rattle.lru_theory.proofs.BestRuns.{min_run_of, bypass_run}
use Rattle.lru_theory.proofs.OtherPolicies.{served_loads}
use Rattle.lru_theory.proofs.min_is_best.Goals as goal

pub returns : goal.returns
returns g c =
    let eq = g.K.PartialEq.eq in
    let laws = g.met.K.Eq.laws in
    record {
      loads = min_best laws;
      demands = λ n trace left paid run. min_best laws n trace left paid
          (served_loads laws n left trace [] paid zero-le run);
      bypasses = bypass_best laws;
      min = min_run_of laws;
      bypass = λ n trace. bypass_run laws n trace [];
    }
