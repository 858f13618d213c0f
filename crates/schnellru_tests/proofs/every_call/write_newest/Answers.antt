use Rattle.lru_model.specs.Runs.{ends}
use Rattle.lru_model.proofs.EveryCall.{writes_newest}
use Rattle.schnellru_tests.proofs.every_call.write_newest.Goals as goal

pub returns-in-Some : goal.returns-in-Some
returns-in-Some g c = writes_newest g.met.K.Eq.laws c.args.value c.len-len.ensures.map

pub returns-in_default : goal.returns-in_default
returns-in_default g c = ends
