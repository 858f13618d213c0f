use Rattle.std.proofs.Common.{None, sym, refl}
use Rattle.lru_model.specs.Calls.{Remove}
use Rattle.lru_tenants.specs.Cache.{IsTenant}
use Rattle.lru_tenants.specs.TenantRuns.{IfOpen}
use Rattle.lru_tenants.proofs.Changes.{found-all, on-same, on-written}
use Rattle.lru_tenants.proofs.Kept.{kept-written, same-sum}
use Rattle.lru_tenants.proofs.cache.TenantCache.remove.Goals as goal

pub remove-requires : goal.remove-requires
remove-requires g c = found-all (IsTenant g.K.PartialEq.eq g.L.Summing.cost_of g.L.Summing.account
    g.L.Budgeted.budget_of) (g.T.LookupKey.names c.args.name.now) c.self.inside.tenants.pairs c.in-Some.own.now
    (sym c.in-Some.ensures.value) c.self.invariant.each

pub invariant_of-self-2 : goal.invariant_of-self-2
invariant_of-self-2 g c = kept-written c.self.inside.tenants.pairs c.self.invariant
    (g.T.LookupKey.names c.args.name.now) c.in-Some.own.now (sym c.in-Some.ensures.value) c.remove.new.map
    c.remove.ensures.tenant c.remove.ensures.budget

pub returns-clause-tenants : goal.returns-clause-tenants
returns-clause-tenants g c = (invariant_of-self-2 g c).each

pub returns-clause-total : goal.returns-clause-total
returns-clause-total g c = rw (← c.self.view_is) (same-sum c.self.inside.tenants.pairs c.self.invariant
    (g.T.LookupKey.names c.args.name.now) c.in-Some.own.now (sym c.in-Some.ensures.value) c.remove.new.map
    c.remove.ensures.budget)

pub returns-clause-removes : goal.returns-clause-removes
returns-clause-removes g c = rw (← c.self.view_is) (
  refl,
  on-written (g.met.T.LookupKey.laws.one c.args.name.now)
      (IfOpen (Remove g.L.Limiter.rules (g.Q.LookupKey.names c.args.key.now)))
      _ g.met.N.Eq.laws c.self.inside.tenants.pairs c.in-Some.own.now c.remove.new.map
      (sym c.in-Some.ensures.value) (c.remove.result, c.remove.new.map, c.remove.ensures.removes, refl, refl),
)

pub returns-in_default-clause-removes : goal.returns-in_default-clause-removes
returns-in_default-clause-removes g c = rw (← c.self.view_is) (
  refl,
  on-same (g.met.T.LookupKey.laws.one c.args.name.now)
      (IfOpen (Remove g.L.Limiter.rules (g.Q.LookupKey.names c.args.key.now)))
      _ _ None (sym c.in_default.ensures.value) (refl, refl),
)
