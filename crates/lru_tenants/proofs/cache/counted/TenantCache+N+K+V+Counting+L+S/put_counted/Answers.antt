use Rattle.std.proofs.Common.{None, sym, refl}
use Rattle.lru_limits.specs.Admissions.{offers_of}
use Rattle.lru_tenants.specs.Counting.{counting_rules, counting_terms, CountsPut, IsCountingTenant}
use Rattle.lru_tenants.specs.TenantRuns.{OfOpen, Puts}
use Rattle.lru_tenants.proofs.CountedPuts.{counts-put}
use Rattle.lru_tenants.proofs.Changes.{found-all, on-same, on-written}
use Rattle.lru_tenants.proofs.Kept.{kept-written, same-sum}
use Rattle.lru_tenants.proofs.cache.counted.TenantCache+N+K+V+Counting+L+S.put_counted.Goals as goal

pub insert_counted-requires : goal.insert_counted-requires
insert_counted-requires g c = found-all (IsCountingTenant g.K.PartialEq.eq g.L.Summing.cost_of g.L.Summing.account
    g.L.Budgeted.budget_of) (g.T.LookupKey.names c.args.name.now) c.self.inside.tenants.pairs c.in-Some.own.now
    (sym c.in-Some.ensures.value) c.self.invariant.each

pub invariant_of-self-2 : goal.invariant_of-self-2
invariant_of-self-2 g c = kept-written c.self.inside.tenants.pairs c.self.invariant
    (g.T.LookupKey.names c.args.name.now) c.in-Some.own.now (sym c.in-Some.ensures.value) c.insert_counted.new.map
    c.insert_counted.ensures.tenant c.insert_counted.ensures.budget

pub returns-clause-tenants : goal.returns-clause-tenants
returns-clause-tenants g c = (invariant_of-self-2 g c).each

pub returns-clause-total : goal.returns-clause-total
returns-clause-total g c = rw (← c.self.view_is) (same-sum c.self.inside.tenants.pairs c.self.invariant
    (g.T.LookupKey.names c.args.name.now) c.in-Some.own.now (sym c.in-Some.ensures.value) c.insert_counted.new.map
    c.insert_counted.ensures.budget)

pub returns-clause-puts : goal.returns-clause-puts
returns-clause-puts g c = rw (← c.self.view_is) (
  refl,
  on-written (g.met.T.LookupKey.laws.one c.args.name.now)
      (OfOpen (CountsPut (Puts (counting_rules g.L.Limiter.rules)
      (offers_of (counting_terms g.L.Admission.terms)) (λ s. g.L.Budgeted.budget_of s.limiter) g.K.PartialEq.eq
      g.S.KeyHasher.hash_of c.args.key c.args.value) (g.K.PartialEq.eq c.args.key))) c.put_answer.result
      g.met.N.Eq.laws c.self.inside.tenants.pairs c.in-Some.own.now
      c.insert_counted.new.map (sym c.in-Some.ensures.value) (counts-put
      (counting_rules g.L.Limiter.rules) (offers_of (counting_terms g.L.Admission.terms)) g.L.Budgeted.budget_of
      g.K.PartialEq.eq g.S.KeyHasher.hash_of c.args.key c.args.value c.in-Some.own.now c.insert_counted.result
      c.put_answer.result c.insert_counted.new.map c.put_answer.ensures c.insert_counted.ensures.inserts
      c.insert_counted.ensures.budget),
)

pub returns-in_default-clause-puts : goal.returns-in_default-clause-puts
returns-in_default-clause-puts g c = rw (← c.self.view_is) (
  refl,
  on-same (g.met.T.LookupKey.laws.one c.args.name.now)
      (OfOpen (CountsPut (Puts (counting_rules g.L.Limiter.rules)
      (offers_of (counting_terms g.L.Admission.terms)) (λ s. g.L.Budgeted.budget_of s.limiter) g.K.PartialEq.eq
      g.S.KeyHasher.hash_of c.args.key c.args.value) (g.K.PartialEq.eq c.args.key))) _ _ None
      (sym c.in_default.ensures.value) (refl, refl),
)
