use Rattle.std.proofs.Common.{Ok, Err, [], refl, ap}
use Rattle.lru_tenants.specs.TenantRuns.{OfOpen, Closes, ClosePasses, PassesOn}
use Rattle.lru_tenants.specs.declared.error.TenantError.TheVariants.{NotOpen}
use Rattle.lru_tenants.proofs.Changes.{on-taken}
use Rattle.lru_tenants.proofs.cache.TenantCache.close_with.Goals as goal

pub returns-in_default-clause-closes : goal.returns-in_default-clause-closes
returns-in_default-clause-closes g c = let (rest, takes) = c.take_tenant.ensures.takes in
    (rest, on-taken (OfOpen Closes) (Err NotOpen) c.in_default.is (refl, refl) takes)

pub returns-clause-closes : goal.returns-clause-closes
returns-clause-closes g c = let (rest, takes) = c.take_tenant.ensures.takes in
    (rest, on-taken (OfOpen Closes) _ c.in-Some.is (ap Ok c.empty.ensures.count, refl) takes)

pub returns-in_default-clause-passed : goal.returns-in_default-clause-passed
returns-in_default-clause-passed g c = let (rest, takes) = c.take_tenant.ensures.takes in
    ([], refl, (rest, on-taken (PassesOn ClosePasses) [] c.in_default.is (refl, refl) takes))

pub returns-clause-passed : goal.returns-clause-passed
returns-clause-passed g c = let (rest, takes) = c.take_tenant.ensures.takes in
    (_, c.empty.ensures.passed, (rest, on-taken (PassesOn ClosePasses) _ c.in-Some.is (refl, refl) takes))
