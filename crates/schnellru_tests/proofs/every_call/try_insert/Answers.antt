use Rattle.lru_model.specs.PaidInsertions.{tries}
use Rattle.lru_model.specs.Runs.{ends, goes_on}
use Rattle.lru_model.proofs.EveryCall.{joined}
use Rattle.schnellru_tests.proofs.every_call.try_insert.Goals as goal

pub returns-clause-run : goal.returns-clause-run
returns-clause-run g c = joined c.try_insert.ensures.ends.calls c.try_insert-2.ensures.ends.calls

pub returns-clause-paid : goal.returns-clause-paid
returns-clause-paid g c =
    let first = c.try_insert in let second = c.try_insert-2 in
    let run = goes_on first.new.self (tries c.args.keys.0 c.args.values.0 first.result first.ensures.step)
    first.ensures.map.sized
    (goes_on second.new.self (tries c.args.keys.1 c.args.values.1 second.result second.ensures.step)
    second.ensures.map.sized ends) in
    c.try_inserts_pay_for_moves.ensures.runs c.args.map.now second.new.self run c.len-len.ensures.map.sized
