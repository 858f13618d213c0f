use Rattle.std.proofs.Common.{None, Ok, Err, arith, sym, refl, ◌∙◌}
use Rattle.lru_tenants.specs.Pool.{with_map, Removes}
use Rattle.lru_tenants.specs.TenantRuns.{OfOpen}
use Rattle.lru_tenants.specs.declared.error.TenantError.TheVariants.{NotOpen}
use Rattle.lru_tenants.proofs.Changes.{on-same, on-written}
use Rattle.lru_tenants.proofs.PoolKept.{is_pool, own-part, own-cost, pool-written}
use Rattle.lru_tenants.proofs.PoolPuts.{remove-falls}
use Rattle.lru_tenants.proofs.pool.TenantPool.remove.Goals as goal

pub returns-in_default-clause-removes : goal.returns-in_default-clause-removes
returns-in_default-clause-removes g c = rw (← c.self.view_is) (
  refl,
  on-same (g.met.T.LookupKey.laws.one c.args.name.now) (OfOpen (Removes g.L.Limiter.rules
      (g.Q.LookupKey.names c.args.key.now))) (Err NotOpen) _ None (sym c.in_default.ensures.value) (refl, refl),
)

pub returns-in_default-clause-pool : goal.returns-in_default-clause-pool
returns-in_default-clause-pool g c =
    is_pool c.self.inside.tenants.pairs c.self.invariant c.self.inside.hasher

pub remove-value-requires : goal.remove-value-requires
remove-value-requires g c = (own-part c.self.inside.tenants.pairs c.self.invariant
    (g.T.LookupKey.names c.args.name.now) c.in-Some.own.now (sym c.in-Some.ensures.value)).tenant

pub overflow_sub-self : goal.overflow_sub-self
overflow_sub-self g c = omega (
  arith,
  c.cost_of-before.ensures,
  own-cost c.self.inside.tenants.pairs c.self.invariant (g.T.LookupKey.names c.args.name.now) c.in-Some.own.now
      (sym c.in-Some.ensures.value),
)

pub overflow_add-self : goal.overflow_add-self
overflow_add-self g c =
    let is = own-part c.self.inside.tenants.pairs c.self.invariant (g.T.LookupKey.names c.args.name.now)
    c.in-Some.own.now (sym c.in-Some.ensures.value) in
    let tenant = c.remove-value.ensures.tenant in
    omega (
      arith,
      c.self.invariant.within,
      is.limits,
      is.tenant.small,
      c.cost_of-after.ensures,
      tenant.within,
      tenant.small,
    )

pub invariant_of-self-2 : goal.invariant_of-self-2
invariant_of-self-2 g c =
    let ps = c.self.inside.tenants.pairs in let names = g.T.LookupKey.names c.args.name.now in
    let was = c.in-Some.own.now in let left = c.remove-value.new.map in
    let there = sym c.in-Some.ensures.value in
    let is = own-part ps c.self.invariant names was there in
    let falls = remove-falls g.L.Limiter.rules g.L.Summing.cost_of g.L.Summing.account
    (g.Q.LookupKey.names c.args.key.now) was.1 left c.remove-value.result is.tenant.sum
    c.remove-value.ensures.tenant.sum c.remove-value.ensures.removes in
    let least = own-cost ps c.self.invariant names was there in
    pool-written ps c.self.invariant names was there left
    (record {
      tenant = c.remove-value.ensures.tenant;
      limits = c.remove-value.ensures.budget ∙ is.limits;
    }) _
    (omega (arith, c.cost_of-before.ensures, c.cost_of-after.ensures, least))
    (omega (arith, c.cost_of-before.ensures, c.cost_of-after.ensures, least, falls, c.self.invariant.within))

pub returns-clause-pool : goal.returns-clause-pool
returns-clause-pool g c = is_pool _ (invariant_of-self-2 g c) c.self.inside.hasher

pub returns-clause-removes : goal.returns-clause-removes
returns-clause-removes g c =
    let was = c.in-Some.own.now in let left = c.remove-value.new.map in
    rw (← c.self.view_is) (
      refl,
      on-written (g.met.T.LookupKey.laws.one c.args.name.now)
          (OfOpen (Removes g.L.Limiter.rules (g.Q.LookupKey.names c.args.key.now))) (Ok c.remove-value.result)
          g.met.N.Eq.laws c.self.inside.tenants.pairs was (with_map left was) (sym c.in-Some.ensures.value)
          (c.remove-value.result, left, c.remove-value.ensures.removes, refl, refl),
    )
