use Rattle.std.proofs.Common.{sym}
use Rattle.lru_model.proofs.CallerLemmas.{read_back, promoted-absent}
use Rattle.lru_caches.proofs.counted.get.Goals as goal

pub returns-in-Some-clause-promoted : goal.returns-in-Some-clause-promoted
returns-in-Some-clause-promoted g c =
    read_back (g.Q.LookupKey.names c.args.key.now) c.args.map.now c.in-Some.value.now (sym c.in-Some.ensures.value)

pub returns-in-Some-clause-map : goal.returns-in-Some-clause-map
returns-in-Some-clause-map g c = c.in-Some.ensures.map c.in-Some.value.now

pub returns-in-None-clause-promoted : goal.returns-in-None-clause-promoted
returns-in-None-clause-promoted g c =
    sym (promoted-absent (g.Q.LookupKey.names c.args.key.now) c.args.map.now (sym c.in-None.ensures.value))
