use Rattle.std.proofs.Common.{subst}
use Rattle.lru_model.specs.Shrinks.{Shrink}
use Rattle.schnellru_tests.proofs.callers.shrink_within.Goals as goal

pub returns : goal.returns
returns c =
    let old = c.args.map.now in let new = c.shrink_to_fit.new.self in let step = c.shrink_to_fit.ensures.step in
    record {
      usage = λ n within.
          c.shrinks_leave_a_tight_table.ensures.usage old c.shrink_to_fit.result new n step within;
      counted = λ is.
          (c.shrinks_pay_for_moves.ensures.shrunk old new (subst (λ result. Shrink old result new) is step)).0;
    }
