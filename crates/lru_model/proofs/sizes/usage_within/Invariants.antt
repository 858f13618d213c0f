use Rattle.lru_model.proofs.TableSizes.Budgets.{IsBest}
use Rattle.lru_model.proofs.sizes.usage_within.Given as goal

abbrev pub invariant-loop-k : goal.invariant-loop-k
invariant-loop-k l = IsBest l.max l.entry_bytes l.budget l.k l.best
