use Rattle.lru_theory.proofs.Inclusions.{all_calls, sub_in, included_faults}
use Rattle.lru_theory.proofs.a_smaller_cache_is_included.Goals as goal

pub returns : goal.returns
returns g c =
    let laws = g.met.K.Eq.laws in
    record {
      included = λ n m calls small large less h. all_calls laws n m less calls small large h;
      finds = sub_in laws;
      misses = λ n m trace small large less h. included_faults laws n m less trace small large h;
    }
