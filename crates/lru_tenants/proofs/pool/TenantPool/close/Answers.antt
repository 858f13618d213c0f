use Rattle.std.proofs.Common.{◌-◌, Some, None, Ok, Err, arith, sym, refl, ◌∙◌, ap, subst}
use Rattle.lru_model.specs.Lists.{without}
use Rattle.lru_tenants.specs.Inside.{HoldsPool}
use Rattle.lru_tenants.specs.Pool.{Closes}
use Rattle.lru_tenants.specs.TenantRuns.{OfOpen}
use Rattle.lru_tenants.specs.declared.error.TenantError.TheVariants.{NotOpen}
use Rattle.lru_tenants.proofs.Changes.{found-removed, on-removed}
use Rattle.lru_tenants.proofs.PoolKept.{is_pool, own-cost, own-share, pool-absent, pool-removed}
use Rattle.lru_tenants.proofs.pool.TenantPool.close.Goals as goal

pub invariant_of-self : goal.invariant_of-self
invariant_of-self g c =
    let ps = c.self.inside.tenants.pairs in let names = g.T.LookupKey.names c.args.name.now in
    let found = found-removed names ps c.remove.ensures.step.value in
    rw (ap (λ st. st.pairs) c.remove.ensures.step.state.is)
    (pool-absent ps c.self.invariant names (sym found ∙ c.in_default.is))

pub returns-in_default-clause-pool : goal.returns-in_default-clause-pool
returns-in_default-clause-pool g c =
    is_pool _ (invariant_of-self g c) c.self.inside.hasher

pub returns-in_default-clause-closes : goal.returns-in_default-clause-closes
returns-in_default-clause-closes g c =
    let ps = c.self.inside.tenants.pairs in let names = g.T.LookupKey.names c.args.name.now in
    let found = found-removed names ps c.remove.ensures.step.value in
    rw (ap (λ st. st.pairs) c.remove.ensures.step.state.is, ← c.self.view_is) (
      refl,
      on-removed (g.met.T.LookupKey.laws.one c.args.name.now) (OfOpen Closes) (Err NotOpen) g.met.N.Eq.laws ps
          c.len-len.ensures.map.distinct None (sym found ∙ c.in_default.is) (refl, refl),
    )

pub overflow_sub-self : goal.overflow_sub-self
overflow_sub-self g c =
    let ps = c.self.inside.tenants.pairs in let names = g.T.LookupKey.names c.args.name.now in
    let found = found-removed names ps c.remove.ensures.step.value in
    own-share ps c.self.invariant names c.in-Some.own (sym found ∙ c.in-Some.is)

pub overflow_sub-self-2 : goal.overflow_sub-self-2
overflow_sub-self-2 g c =
    let ps = c.self.inside.tenants.pairs in let names = g.T.LookupKey.names c.args.name.now in
    let found = found-removed names ps c.remove.ensures.step.value in
    omega (
      arith,
      c.cost_of.ensures,
      own-cost ps c.self.invariant names c.in-Some.own (sym found ∙ c.in-Some.is),
    )

pub invariant_of-self-2 : goal.invariant_of-self-2
invariant_of-self-2 g c =
    let ps = c.self.inside.tenants.pairs in let names = g.T.LookupKey.names c.args.name.now in
    let found = found-removed names ps c.remove.ensures.step.value in
    rw (ap (λ st. st.pairs) c.remove.ensures.step.state.is)
    (subst (λ n. HoldsPool g.K.PartialEq.eq g.L.Summing.cost_of g.L.Summing.account g.L.Budgeted.budget_of
    (without names ps) c.self.inside.limit (c.self.inside.shares - c.in-Some.own.0) (c.self.inside.total - n))
    (sym c.cost_of.ensures) (pool-removed ps c.self.invariant names c.in-Some.own (sym found ∙ c.in-Some.is)))

pub returns-clause-pool : goal.returns-clause-pool
returns-clause-pool g c = is_pool _ (invariant_of-self-2 g c) c.self.inside.hasher

pub returns-clause-closes : goal.returns-clause-closes
returns-clause-closes g c =
    let ps = c.self.inside.tenants.pairs in let names = g.T.LookupKey.names c.args.name.now in
    let found = found-removed names ps c.remove.ensures.step.value in
    rw (ap (λ st. st.pairs) c.remove.ensures.step.state.is, ← c.self.view_is) (
      refl,
      on-removed (g.met.T.LookupKey.laws.one c.args.name.now) (OfOpen Closes) _ g.met.N.Eq.laws ps
          c.len-len.ensures.map.distinct (Some c.in-Some.own) (sym found ∙ c.in-Some.is) (ap Ok c.len.ensures.len, refl),
    )
