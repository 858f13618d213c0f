use Rattle.std.proofs.Common.{None, sym, refl, ap}
use Rattle.lru_tenants.specs.Counting.{IsCountingTenant, SetsCounts}
use Rattle.lru_tenants.specs.TenantRuns.{IfOpen}
use Rattle.lru_tenants.proofs.Changes.{found-all, on-same, on-written}
use Rattle.lru_tenants.proofs.Kept.{kept-written}
use Rattle.lru_tenants.proofs.cache.counted.TenantCache+N+K+V+Counting+L+S.set_counts.Goals as goal

pub set_counts-requires : goal.set_counts-requires
set_counts-requires g c = found-all (IsCountingTenant g.K.PartialEq.eq g.L.Summing.cost_of g.L.Summing.account
    g.L.Budgeted.budget_of) (g.T.LookupKey.names c.args.name.now) c.self.inside.tenants.pairs c.in-Some.own.now
    (sym c.in-Some.ensures.value) c.self.invariant.each

pub invariant_of-self-2 : goal.invariant_of-self-2
invariant_of-self-2 g c = kept-written c.self.inside.tenants.pairs c.self.invariant
    (g.T.LookupKey.names c.args.name.now) c.in-Some.own.now (sym c.in-Some.ensures.value) c.set_counts.new.map
    c.set_counts.ensures.tenant (ap (λ st. g.L.Budgeted.budget_of st.limiter.limiter) c.set_counts.ensures.map)

pub returns-clause-tenants : goal.returns-clause-tenants
returns-clause-tenants g c = (invariant_of-self-2 g c).each

pub returns-clause-sets : goal.returns-clause-sets
returns-clause-sets g c = rw (← c.self.view_is) (
  refl,
  on-written (g.met.T.LookupKey.laws.one c.args.name.now)
      (IfOpen (SetsCounts c.args.counts)) _ g.met.N.Eq.laws c.self.inside.tenants.pairs c.in-Some.own.now
      c.set_counts.new.map (sym c.in-Some.ensures.value) (tt, c.set_counts.new.map, c.set_counts.ensures.map, refl, refl),
)

pub returns-in_default-clause-sets : goal.returns-in_default-clause-sets
returns-in_default-clause-sets g c = rw (← c.self.view_is) (
  refl,
  on-same (g.met.T.LookupKey.laws.one c.args.name.now)
      (IfOpen (SetsCounts c.args.counts)) _ _ None (sym c.in_default.ensures.value) (refl, refl),
)
