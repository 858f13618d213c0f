use Rattle.std.proofs.Common.{◌∙◌}
use Rattle.schnellru_tests.proofs.callers.count_all.Goals as goal

pub loop-text-preserved : goal.loop-text-preserved
loop-text-preserved c =
    let is = c.loop-text.invariant in
    let rise = c.inserts_pay_for_moves.ensures.rise c.in_ok-clone.field-0 1 c.loop-text.map c.insert.result
    c.insert.new.self is.sized c.insert.ensures.step in
    record { sized = c.insert.ensures.map.sized; shrunk = rise.shrunk ∙ is.shrunk }
