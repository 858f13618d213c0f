use Rattle.lru_theory.proofs.Budgets.{within_is, faults_within_is}
use Rattle.lru_theory.proofs.a_budget_keeps_the_newest.Goals as goal

pub returns : goal.returns
returns g c = record {
  keys = λ cost n past trace same. within_is g.K.PartialEq.eq cost same n past trace;
  misses = λ cost n past trace same. faults_within_is g.met.K.Eq.laws cost same n past trace;
}
