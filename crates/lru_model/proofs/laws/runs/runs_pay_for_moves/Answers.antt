use Rattle.lru_model.proofs.Theorems.Runs.{run_pays}
use Rattle.lru_model.proofs.laws.runs.runs_pay_for_moves.Goals as goal

pub returns : goal.returns
returns g c = record { rise = λ old new run ok. run_pays new old ok run }
