use Rattle.std.proofs.Common.{[], arith}
use Rattle.lru_theory.proofs.LateLoads.{late}
use Rattle.lru_theory.proofs.loading_ahead_gains_nothing.Goals as goal

pub returns : goal.returns
returns g c = λ h trace first left paid fits run.
    let served = late g.met.K.Eq.laws h left trace first paid run first [] fits (λ key inside. inside) in
    (served.0, served.1, served.2, omega (arith, served.3))
