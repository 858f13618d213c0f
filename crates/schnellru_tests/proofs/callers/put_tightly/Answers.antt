use Rattle.schnellru_tests.proofs.callers.put_tightly.Goals as goal

pub returns : goal.returns
returns c = c.inserts_grow_little.ensures c.args.key c.args.value c.args.map.now c.insert.result c.insert.new.self
    c.len-len.ensures.map.sized c.insert.ensures.step
