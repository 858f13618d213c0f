use Rattle.lru_limits.specs.Bytes.{both_own}
use Rattle.lru_tenants.proofs.ByteSums.{is_within}
use Rattle.lru_tenants.proofs.bytes.ByteTenants.len.Goals as goal

pub returns-clause-within : goal.returns-clause-within
returns-clause-within g c = rw (← c.self.view_is) (is_within g.N.OwnedBytes.owned
    (both_own g.K.OwnedBytes.owned g.V.OwnedBytes.owned) c.self.inside.tenants c.self.invariant
    c.len.ensures.map.sized)
