use Rattle.std.proofs.Common.{arith, sym, refl, ◌∙◌, ap, option_map}
use Rattle.std.specs.Option.{unwrap_or}
use Rattle.lru_tenants.specs.TenantRuns.{Takes}
use Rattle.lru_tenants.proofs.Changes.{found-removed, on-removed}
use Rattle.lru_tenants.proofs.Kept.{kept-removed, own-within, sum-removed}
use Rattle.lru_tenants.proofs.cache.TenantCache.take_tenant.Goals as goal

pub invariant_of-self : goal.invariant_of-self
invariant_of-self g c = let names = g.T.LookupKey.names c.args.name.now in
    let tenants = c.self.inside.tenants.pairs in
    let found = found-removed names tenants c.remove.ensures.step.value in
    rw (ap (λ st. st.pairs) c.remove.ensures.step.state.is)
    (kept-removed tenants c.self.invariant names c.self.inside.budgets (omega (
      arith,
      ap (λ o. unwrap_or (option_map (λ map. g.L.Budgeted.budget_of map.limiter) o) 0) (sym found ∙ c.in_default.is),
    )))

pub overflow_sub-self : goal.overflow_sub-self
overflow_sub-self g c = let names = g.T.LookupKey.names c.args.name.now in
    let tenants = c.self.inside.tenants.pairs in
    let found = found-removed names tenants c.remove.ensures.step.value in
    omega (
      arith,
      c.budget.ensures ∙ ap g.L.Budgeted.budget_of c.limiter.ensures,
      own-within tenants c.self.invariant names c.in-Some.map (sym found ∙ c.in-Some.is),
    )

pub invariant_of-self-2 : goal.invariant_of-self-2
invariant_of-self-2 g c = let names = g.T.LookupKey.names c.args.name.now in
    let tenants = c.self.inside.tenants.pairs in
    let found = found-removed names tenants c.remove.ensures.step.value in
    let there = sym found ∙ c.in-Some.is in
    rw (ap (λ st. st.pairs) c.remove.ensures.step.state.is)
    (kept-removed tenants c.self.invariant names _ (omega (
      arith,
      ap (λ o. unwrap_or (option_map (λ map. g.L.Budgeted.budget_of map.limiter) o) 0) there,
      c.budget.ensures ∙ ap g.L.Budgeted.budget_of c.limiter.ensures,
      own-within tenants c.self.invariant names c.in-Some.map there,
    )))

pub returns-clause-tenants : goal.returns-clause-tenants
returns-clause-tenants g c = (invariant_of-self-2 g c).each

pub returns-in_default-clause-tenants : goal.returns-in_default-clause-tenants
returns-in_default-clause-tenants g c = (invariant_of-self g c).each

pub returns-in_default-clause-total : goal.returns-in_default-clause-total
returns-in_default-clause-total g c =
    rw (ap (λ st. st.pairs) c.remove.ensures.step.state.is, ← c.self.view_is) (omega (
      arith,
      c.self.invariant.sum,
      sum-removed c.self.inside.tenants.pairs c.self.invariant (g.T.LookupKey.names c.args.name.now),
    ))

pub returns-clause-total : goal.returns-clause-total
returns-clause-total g c =
    rw (ap (λ st. st.pairs) c.remove.ensures.step.state.is, ← c.self.view_is) (omega (
      arith,
      c.self.invariant.sum,
      sum-removed c.self.inside.tenants.pairs c.self.invariant (g.T.LookupKey.names c.args.name.now),
    ))

pub returns-in_default-clause-takes : goal.returns-in_default-clause-takes
returns-in_default-clause-takes g c = let names = g.T.LookupKey.names c.args.name.now in
    let tenants = c.self.inside.tenants.pairs in
    let found = found-removed names tenants c.remove.ensures.step.value in
    rw (ap (λ st. st.pairs) c.remove.ensures.step.state.is, ← c.self.view_is) (
      refl,
      on-removed (g.met.T.LookupKey.laws.one c.args.name.now) Takes _ g.met.N.Eq.laws tenants
          c.len-len.ensures.map.distinct c.remove.result (sym found) (sym c.in_default.is, refl),
    )

pub returns-clause-takes : goal.returns-clause-takes
returns-clause-takes g c = let names = g.T.LookupKey.names c.args.name.now in
    let tenants = c.self.inside.tenants.pairs in
    let found = found-removed names tenants c.remove.ensures.step.value in
    rw (ap (λ st. st.pairs) c.remove.ensures.step.state.is, ← c.self.view_is) (
      refl,
      on-removed (g.met.T.LookupKey.laws.one c.args.name.now) Takes _ g.met.N.Eq.laws tenants
          c.len-len.ensures.map.distinct c.remove.result (sym found) (sym c.in-Some.is, refl),
    )
