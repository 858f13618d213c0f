use Rattle.std.proofs.Common.{refl}
use Rattle.lru_model.proofs.Theorems.RefusedGrowth.{place_runs_out_half, refused_half, refused_one}
use Rattle.lru_model.proofs.laws.refused_growth_keeps_half.Goals as goal

pub returns-clause-half : goal.returns-clause-half
returns-clause-half g c = λ pair old new refusal step. refused_half _ _ pair old new step refusal

pub returns-clause-without_memory : goal.returns-clause-without_memory
returns-clause-without_memory g c = λ pair old new refusal step.
    place_runs_out_half _ _ pair old refusal _ new refl step

pub returns-clause-one : goal.returns-clause-one
returns-clause-one g c = λ pair old new refusal small step. refused_one _ _ pair old new step refusal small
