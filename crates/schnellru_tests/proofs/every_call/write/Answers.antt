use Rattle.std.proofs.Common.{refl}
use Rattle.lru_model.specs.Runs.{ends}
use Rattle.lru_model.proofs.EveryCall.{gets_and_writes}
use Rattle.schnellru_tests.proofs.every_call.write.Goals as goal

pub returns-in-Some : goal.returns-in-Some
returns-in-Some g c =
    gets_and_writes (g.Q.LookupKey.names c.args.key.now) c.args.value c.len-len.ensures.map.sized refl

pub returns-in_default : goal.returns-in_default
returns-in_default g c = ends
