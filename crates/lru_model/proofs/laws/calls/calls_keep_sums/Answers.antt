use Rattle.lru_model.proofs.Theorems.Runs.{step_summed}
use Rattle.lru_model.proofs.laws.calls.calls_keep_sums.Goals as goal

pub returns : goal.returns
returns g c = λ cost account laws old new step summed. step_summed laws old new step summed
