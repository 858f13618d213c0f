use Rattle.std.proofs.Common.{string_len}
use Rattle.lru_limits.specs.Budget.{charges-sums}
use Rattle.lru_limits.specs.Texts.{names_text}
use Rattle.lru_model.specs.Runs.Step.{inserts, removes}
use Rattle.schnellru_tests.proofs.callers.exchange.Goals as goal

pub returns : goal.returns
returns c =
    let old = c.args.map.now in let between = c.remove.new.self in let new = c.insert.new.self in
    let sums = c.calls_keep_sums.ensures _ _ (charges-sums string_len) in let budget = c.calls_keep_the_budget.ensures in
    let removed = removes (names_text c.args.old.now) c.remove.result c.remove.ensures.step in
    let inserted = inserts c.args.new c.args.text c.insert.result c.insert.ensures.step in
    let summed = sums old between removed c.requires.summed in
    let within = budget.total old between removed c.requires.summed c.requires.within in record {
      summed = sums between new inserted summed;
      within = budget.total between new inserted summed within;
    }
