use Rattle.std.proofs.Common.{refl}
use Rattle.lru_model.proofs.Theorems.Exactness.{insert_reports, reports_small}
use Rattle.lru_model.proofs.laws.small_inserts_are_exact.Goals as goal

pub returns : goal.returns
returns g c = λ key value old result new small step.
    let w = insert_reports g.L.Limiter.rules g.L.Insertion.offers g.I.LookupKey.names key value old result new step in
    w.1 _ (λ s pair n ready l may. record {
      other = w.0;
      told = reports_small g.L.Limiter.rules old small s ready l _ w.0 may;
      bucket = refl;
      same = refl;
    })
