use Rattle.std.proofs.Common.{arith}
use Rattle.schnellru_tests.proofs.callers.keep_all.Goals as goal

pub loop-text-preserved : goal.loop-text-preserved
loop-text-preserved c =
    let is = c.loop-text.invariant in let insertions = is.insertions in
    let rise = c.try_inserts_pay_for_moves.ensures.rise c.in_ok-clone.field-0 1 c.loop-text.map c.try_insert.result
    c.try_insert.new.self is.sized c.try_insert.ensures.step in
    record { sized = c.try_insert.ensures.map.sized; insertions = omega (arith, rise, insertions) }
