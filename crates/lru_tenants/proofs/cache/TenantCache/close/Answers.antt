use Rattle.std.proofs.Common.{Ok, Err, refl, ap}
use Rattle.lru_tenants.specs.TenantRuns.{OfOpen, Closes}
use Rattle.lru_tenants.specs.declared.error.TenantError.TheVariants.{NotOpen}
use Rattle.lru_tenants.proofs.Changes.{on-taken}
use Rattle.lru_tenants.proofs.cache.TenantCache.close.Goals as goal

pub returns-in_default-clause-closes : goal.returns-in_default-clause-closes
returns-in_default-clause-closes g c = let (rest, takes) = c.take_tenant.ensures.takes in
    (rest, on-taken (OfOpen Closes) (Err NotOpen) c.in_default.is (refl, refl) takes)

pub returns-clause-closes : goal.returns-clause-closes
returns-clause-closes g c = let (rest, takes) = c.take_tenant.ensures.takes in
    (rest, on-taken (OfOpen Closes) _ c.in-Some.is (ap Ok c.len.ensures.len, refl) takes)
