use Rattle.std.proofs.Common.{refl}
use Rattle.lru_model.proofs.Theorems.RefusedGrowth.{grown_keeps, keeps_or_refused, place_runs_out_keeps}
use Rattle.lru_model.proofs.laws.growth_keeps_the_list.Goals as goal

pub returns-clause-grown : goal.returns-clause-grown
returns-clause-grown g c = λ pair old new other step. grown_keeps _ _ pair old new step other

pub returns-clause-otherwise : goal.returns-clause-otherwise
returns-clause-otherwise g c = λ pair old new step. keeps_or_refused _ _ pair old new step

pub returns-clause-without_memory : goal.returns-clause-without_memory
returns-clause-without_memory g c = λ pair old new step. place_runs_out_keeps _ _ pair old _ new refl step
