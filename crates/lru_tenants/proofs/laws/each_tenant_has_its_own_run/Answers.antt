use Rattle.lru_tenants.proofs.OwnRuns.{chain, stays-by-others}
use Rattle.lru_tenants.proofs.laws.each_tenant_has_its_own_run.Goals as goal

pub returns-clause-own : goal.returns-clause-own
returns-clause-own g c = chain g.N.PartialEq.eq

pub returns-clause-others : goal.returns-clause-others
returns-clause-others g c = stays-by-others g.N.PartialEq.eq
