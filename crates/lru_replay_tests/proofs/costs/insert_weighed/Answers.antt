use Rattle.std.proofs.Common.{ℕ, ap}
use Rattle.std.proofs.lemmas.Bool.{eqb-true}
use Rattle.std.specs.Prelude.{string_len}
use Rattle.std.specs.declared.alloc.Global.{Global}
use Rattle.std.specs.declared.string.String.{String}
use Rattle.lru_limits.specs.Budget.{pair_cost}
use Rattle.lru_replay_tests.proofs.costs.insert_weighed.Goals as goal

pub returns : goal.returns
returns c = λ cost keeps priced cheap. c.calls_make_references.ensures.inserts
    (λ (key : ℕ) (text : String Global). pair_cost 16 key (string_len text)) cost c.args.key c.args.text
    c.in_ok-kept.kept c.args.map.now c.insert.new.self (record {
      keys = λ key other same. ap cost (eqb-true key other same);
      pairs = λ key other text same. ap (λ k. pair_cost 16 k (string_len text)) (eqb-true key other same);
    }) keeps c.insert.ensures.map.sized priced cheap c.in_ok-kept.ensures.step
