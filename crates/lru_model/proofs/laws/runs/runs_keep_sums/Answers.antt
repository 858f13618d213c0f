use Rattle.lru_model.proofs.Theorems.Runs.{run_summed}
use Rattle.lru_model.proofs.laws.runs.runs_keep_sums.Goals as goal

pub returns : goal.returns
returns g c = record { sum = λ cost account laws old new run summed. run_summed laws new old run summed }
