use Rattle.std.proofs.Common.{sym}
use Rattle.lru_model.proofs.CallerLemmas.{written-absent}
use Rattle.lru_replay.proofs.calls.steps.write.Goals as goal

pub returns-in-None-clause-written : goal.returns-in-None-clause-written
returns-in-None-clause-written g c =
    sym (written-absent (g.K.PartialEq.eq c.args.key.now) c.args.map.now c.args.value (sym c.in-None.ensures.value))
