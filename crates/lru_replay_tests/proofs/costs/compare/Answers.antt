use Rattle.std.proofs.Common.{◌∙◌, [], arith}
use Rattle.std.specs.String.{string_eq}
use Rattle.lru_model.specs.Lists.{keys_of}
use Rattle.lru_theory.specs.Budgets.{faults_within}
use Rattle.lru_replay_tests.proofs.costs.compare.Goals as goal

pub returns : goal.returns
returns g c =
    let size = g.L.Source.size in let texts = c.args.texts.now in
    let small = c.map_within-small.ensures in let large = c.map_within-large.ensures in record {
      fewer = omega (
        arith,
        c.a_larger_budget_never_misses_more.ensures.misses size c.args.limits.0 c.args.limits.1 0 [] texts c.requires.ordered,
        c.in_ok-read_through.ensures.count
            ∙ (λ i. faults_within string_eq size (small.limit i) (keys_of (small.empty i)) texts),
        c.in_ok-read_through-2.ensures.count
            ∙ (λ i. faults_within string_eq size (large.limit i) (keys_of (large.empty i)) texts),
      );
    }
