use Rattle.lru_model.proofs.Theorems.Shrinks.{shrunk_list}
use Rattle.lru_model.proofs.laws.shrinks.shrinks_keep_the_list.Goals as goal

pub returns : goal.returns
returns g c = λ old result new step. shrunk_list old result new step
