use Rattle.std.proofs.Common.{sym}
use Rattle.lru_model.proofs.CallerLemmas.{read_back, promoted-absent}
use Rattle.lru_replay.proofs.calls.steps.get.Goals as goal

pub returns-in-Some-clause-promoted : goal.returns-in-Some-clause-promoted
returns-in-Some-clause-promoted g c =
    read_back (g.K.PartialEq.eq c.args.key.now) c.args.map.now c.in-Some.value.now (sym c.in-Some.ensures.value)

pub returns-in-None-clause-promoted : goal.returns-in-None-clause-promoted
returns-in-None-clause-promoted g c =
    sym (promoted-absent (g.K.PartialEq.eq c.args.key.now) c.args.map.now (sym c.in-None.ensures.value))
