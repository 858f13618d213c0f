use Rattle.lru_theory.proofs.Lists.{cached_is, faults_is}
use Rattle.lru_theory.proofs.a_cache_is_the_newest.Goals as goal

pub returns : goal.returns
returns g c = record { keys = cached_is g.K.PartialEq.eq; misses = faults_is g.met.K.Eq.laws }
