use Rattle.std.proofs.Common.{◌≡◌, None, sym, refl, ap, ◌∙◌}
use Rattle.lru_caches.specs.Counted.{zeros}
use Rattle.lru_tenants.specs.Counting.{IsCountingTenant, TakesCounts, with_counts}
use Rattle.lru_tenants.specs.TenantRuns.{IfOpen}
use Rattle.lru_tenants.proofs.Changes.{found-all, on-same, on-written}
use Rattle.lru_tenants.proofs.Kept.{kept-written}
use Rattle.lru_tenants.proofs.cache.counted.TenantCache+N+K+V+Counting+L+S.take_counts.Goals as goal

pub set_counts-requires : goal.set_counts-requires
set_counts-requires g c = found-all (IsCountingTenant g.K.PartialEq.eq g.L.Summing.cost_of g.L.Summing.account
    g.L.Budgeted.budget_of) (g.T.LookupKey.names c.args.name.now) c.self.inside.tenants.pairs c.in-Some.own.now
    (sym c.in-Some.ensures.value) c.self.invariant.each

pub invariant_of-self-2 : goal.invariant_of-self-2
invariant_of-self-2 g c = kept-written c.self.inside.tenants.pairs c.self.invariant
    (g.T.LookupKey.names c.args.name.now) c.in-Some.own.now (sym c.in-Some.ensures.value) c.set_counts.new.map
    c.set_counts.ensures.tenant (ap (λ st. g.L.Budgeted.budget_of st.limiter.limiter) c.set_counts.ensures.map)

pub returns-clause-tenants : goal.returns-clause-tenants
returns-clause-tenants g c = (invariant_of-self-2 g c).each

pub returns-clause-takes : goal.returns-clause-takes
returns-clause-takes g c =
    let is = c.default.ensures in
    let none : c.default.result ≡ zeros = λ i. record {
      hits = is.0 i;
      misses = is.1.0 i;
      insertions = is.1.1.0 i;
      rejections = is.1.1.1.0 i;
      evictions = is.1.1.1.1 i;
    } in
    rw (← c.self.view_is) (
      refl,
      on-written (g.met.T.LookupKey.laws.one c.args.name.now)
          (IfOpen TakesCounts) _ g.met.N.Eq.laws c.self.inside.tenants.pairs c.in-Some.own.now
          c.set_counts.new.map (sym c.in-Some.ensures.value) (
            c.limiter.result.now.counts,
            c.set_counts.new.map,
            (
              ap (λ s. s.counts) c.limiter.ensures,
              c.set_counts.ensures.map
                  ∙ ap (λ counts. with_counts counts c.in-Some.own.now) none,
            ),
            refl,
            refl,
          ),
    )

pub returns-in_default-clause-takes : goal.returns-in_default-clause-takes
returns-in_default-clause-takes g c = rw (← c.self.view_is) (
  refl,
  on-same (g.met.T.LookupKey.laws.one c.args.name.now)
      (IfOpen TakesCounts) _ _ None (sym c.in_default.ensures.value) (refl, refl),
)
