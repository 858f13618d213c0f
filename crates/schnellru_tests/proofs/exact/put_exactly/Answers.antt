use Rattle.schnellru_tests.proofs.exact.put_exactly.Goals as goal

pub returns : goal.returns
returns g c =
    let old = c.args.map.now in let new = c.insert.new.self in let result = c.insert.result in
    let step = c.insert.ensures.step in record {
      reported = c.inserts_are_exact_unless_refused.ensures.exact c.args.key c.args.value old result new step;
      given = c.inserts_are_exact_unless_refused.ensures.given c.args.key c.args.value old result new step;
      small = λ few. c.small_inserts_are_exact.ensures c.args.key c.args.value old result new few step;
    }
