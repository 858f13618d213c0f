use Rattle.lru_model.proofs.TableSizes.Budgets.{usage_is_budget}
use Rattle.lru_model.proofs.laws.usages_are_their_budgets.Goals as goal

pub returns : goal.returns
returns g c = λ old bytes greatest sized is best. usage_is_budget old bytes greatest sized is best
