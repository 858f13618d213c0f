use Rattle.lru_model.proofs.Theorems.Shrinks.{shrink_fewer, shrink_uses, shrink_again}
use Rattle.lru_model.proofs.laws.shrinks.shrinks_leave_a_tight_table.Goals as goal

pub returns-clause-fewer : goal.returns-clause-fewer
returns-clause-fewer g c = λ old result new step. shrink_fewer old result new step

pub returns-clause-usage : goal.returns-clause-usage
returns-clause-usage g c = λ old result new most step uses. shrink_uses old result new most step uses

pub returns-clause-again : goal.returns-clause-again
returns-clause-again g c = λ old mid result new first second. shrink_again old mid result new first second
