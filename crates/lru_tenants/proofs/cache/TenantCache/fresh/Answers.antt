use Rattle.std.proofs.Common.{arith}
use Rattle.lru_tenants.proofs.cache.TenantCache.fresh.Goals as goal

pub returns-clause-map : goal.returns-clause-map
returns-clause-map g c = rw (← c.self.view_is, ← c.with_budget.ensures) c.with_limiter_and_hasher.ensures

pub returns-clause-tenant : goal.returns-clause-tenant
returns-clause-tenant g c =
    let laws = g.met.L.Budgeted.laws in
    rw (c.with_limiter_and_hasher.ensures, c.with_budget.ensures) (record {
      map = c.runs_begin_with_maps.ensures.empty (g.L.Budgeted.made c.args.budget) c.self.inside.hasher _;
      sum = laws.made_empty c.args.budget;
      within = omega (arith, laws.made_empty c.args.budget, laws.made_budget c.args.budget);
      small = omega (arith, laws.made_budget c.args.budget);
    })
