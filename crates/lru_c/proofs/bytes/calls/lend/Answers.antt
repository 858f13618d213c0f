use Rattle.std.proofs.Common.{sym}
use Rattle.lru_model.proofs.CallerLemmas.{read_back, promoted-absent}
use Rattle.lru_c.specs.Bytes.{names_bytes}
use Rattle.lru_c.proofs.bytes.calls.lend.Goals as goal

pub returns-in-Some-clause-promoted : goal.returns-in-Some-clause-promoted
returns-in-Some-clause-promoted c =
    read_back (names_bytes c.args.key.now) c.args.map.now c.in-Some.value.now (sym c.in-Some.ensures.value)

pub returns-in-None-clause-promoted : goal.returns-in-None-clause-promoted
returns-in-None-clause-promoted c =
    sym (promoted-absent (names_bytes c.args.key.now) c.args.map.now (sym c.in-None.ensures.value))
