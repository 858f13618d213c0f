use Rattle.std.proofs.Common.{sym, subst}
use Rattle.lru_limits.specs.Bytes.{both_own}
use Rattle.lru_model.specs.Theorems.{KeepsBytes}
use Rattle.lru_model.specs.Runs.Step.{removes}
use Rattle.lru_tenants.proofs.bytes.tenant.ByteTenant.remove.Goals as goal

pub returns-clause-keeps : goal.returns-clause-keeps
returns-clause-keeps g c = c.calls_keep_the_bytes.ensures.kept c.self.inside.map c.remove.new.self
    c.len-len.ensures.map.sized
    (removes (g.Q.LookupKey.names c.args.key.now) c.remove.result c.remove.ensures.step)
    (subst (KeepsBytes (both_own g.K.OwnedBytes.owned g.V.OwnedBytes.owned)) (sym c.self.view_is) c.requires)
