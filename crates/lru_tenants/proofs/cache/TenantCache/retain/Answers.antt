use Rattle.std.proofs.Common.{None, sym, refl}
use Rattle.lru_model.specs.Retains.{Retains}
use Rattle.lru_tenants.specs.Cache.{IsTenant}
use Rattle.lru_tenants.specs.TenantRuns.{IfOpen}
use Rattle.lru_tenants.proofs.Changes.{found-all, on-same, on-written}
use Rattle.lru_tenants.proofs.Kept.{kept-written, same-sum}
use Rattle.lru_tenants.proofs.cache.TenantCache.retain.Goals as goal

pub retain-requires-clause-tenant : goal.retain-requires-clause-tenant
retain-requires-clause-tenant g c = found-all (IsTenant g.K.PartialEq.eq g.L.Summing.cost_of g.L.Summing.account
    g.L.Budgeted.budget_of) (g.T.LookupKey.names c.args.name.now) c.self.inside.tenants.pairs c.in-Some.own.now
    (sym c.in-Some.ensures.value) c.self.invariant.each

pub invariant_of-self-2 : goal.invariant_of-self-2
invariant_of-self-2 g c = kept-written c.self.inside.tenants.pairs c.self.invariant
    (g.T.LookupKey.names c.args.name.now) c.in-Some.own.now (sym c.in-Some.ensures.value) c.retain.new.map
    c.retain.ensures.tenant c.retain.ensures.budget

pub returns-clause-tenants : goal.returns-clause-tenants
returns-clause-tenants g c = (invariant_of-self-2 g c).each

pub returns-clause-total : goal.returns-clause-total
returns-clause-total g c = rw (← c.self.view_is) (same-sum c.self.inside.tenants.pairs c.self.invariant
    (g.T.LookupKey.names c.args.name.now) c.in-Some.own.now (sym c.in-Some.ensures.value) c.retain.new.map
    c.retain.ensures.budget)

pub returns-clause-retains : goal.returns-clause-retains
returns-clause-retains g c = rw (← c.self.view_is) (
  refl,
  on-written (g.met.T.LookupKey.laws.one c.args.name.now)
      (IfOpen (λ old done new. Retains g.F.FnMut g.L.Limiter.rules c.args.keep old new))
      _ g.met.N.Eq.laws c.self.inside.tenants.pairs c.in-Some.own.now c.retain.new.map
      (sym c.in-Some.ensures.value) (tt, c.retain.new.map, c.retain.ensures.retains, refl, refl),
)

pub returns-in_default-clause-retains : goal.returns-in_default-clause-retains
returns-in_default-clause-retains g c = rw (← c.self.view_is) (
  refl,
  on-same (g.met.T.LookupKey.laws.one c.args.name.now)
      (IfOpen (λ old done new. Retains g.F.FnMut g.L.Limiter.rules c.args.keep old new))
      _ _ None (sym c.in_default.ensures.value) (refl, refl),
)
