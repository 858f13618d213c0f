use Rattle.lru_theory.proofs.Lists.{fewer_misses}
use Rattle.lru_theory.proofs.more_places_never_miss_more.Goals as goal

pub returns : goal.returns
returns g c = λ n m past trace h. fewer_misses g.K.PartialEq.eq n m h past trace
