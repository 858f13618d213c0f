use Rattle.schnellru_tests.proofs.callers.forget.Goals as goal

pub returns : goal.returns
returns c = c.removed_keys_are_absent.ensures c.args.key c.args.map.now c.remove.result c.remove.new.self
    c.len-len.ensures.map.distinct c.remove.ensures.step
