use Rattle.lru_model.proofs.Theorems.Shrinks.{shrink_pays, shrink_kept}
use Rattle.lru_model.proofs.laws.shrinks.shrinks_pay_for_moves.Goals as goal

pub returns-clause-shrunk : goal.returns-clause-shrunk
returns-clause-shrunk g c = λ old new step. shrink_pays old new step

pub returns-clause-kept : goal.returns-clause-kept
returns-clause-kept g c = λ old result new other step. shrink_kept old result new other step
