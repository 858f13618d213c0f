use Rattle.std.proofs.Common.{refl}
use Rattle.lru_model.proofs.Theorems.Exactness.{insert_reports, inserts_alike}
use Rattle.lru_model.proofs.laws.inserts_are_exact_unless_refused.Goals as goal

pub returns-clause-exact : goal.returns-clause-exact
returns-clause-exact g c = λ key value old result new step.
    let w = insert_reports g.L.Limiter.rules g.L.Insertion.offers g.I.LookupKey.names key value old result new step in
    w.1 _ (λ s pair n ready l may. record { other = w.0; told = (ready, l, may); bucket = refl; same = refl })

pub returns-clause-given : goal.returns-clause-given
returns-clause-given g c = λ key value old result new step.
    let w = insert_reports g.L.Limiter.rules g.L.Insertion.offers g.I.LookupKey.names key value old result new step in
    (w.0, w.1 _ (λ s pair n ready l may. record { other = w.0; told = refl; bucket = refl; same = refl }))

pub returns-clause-alike : goal.returns-clause-alike
returns-clause-alike g c = λ reports key value old result other new others determined ok good h k.
    inserts_alike g.L.Limiter.rules g.L.Insertion.offers g.I.LookupKey.names reports key value old determined result other
    new others ok good h k
