use Rattle.std.proofs.Common.{[], None, sym, refl}
use Rattle.lru_limits.specs.Admissions.{offers_of}
use Rattle.lru_tenants.specs.Cache.{IsTenant}
use Rattle.lru_tenants.specs.TenantRuns.{OfOpen, Puts, PutPasses, PassesOn}
use Rattle.lru_tenants.proofs.Changes.{found-all, on-same, on-written}
use Rattle.lru_tenants.proofs.Kept.{kept-written, same-sum}
use Rattle.lru_tenants.proofs.cache.TenantCache.put_with.Goals as goal

pub insert-requires-clause-tenant : goal.insert-requires-clause-tenant
insert-requires-clause-tenant g c = found-all (IsTenant g.K.PartialEq.eq g.L.Summing.cost_of g.L.Summing.account
    g.L.Budgeted.budget_of) (g.T.LookupKey.names c.args.name.now) c.self.inside.tenants.pairs c.in-Some.own.now
    (sym c.in-Some.ensures.value) c.self.invariant.each

pub invariant_of-self-2 : goal.invariant_of-self-2
invariant_of-self-2 g c = kept-written c.self.inside.tenants.pairs c.self.invariant
    (g.T.LookupKey.names c.args.name.now) c.in-Some.own.now (sym c.in-Some.ensures.value) c.insert.new.map
    c.insert.ensures.tenant c.insert.ensures.budget

pub returns-clause-tenants : goal.returns-clause-tenants
returns-clause-tenants g c = (invariant_of-self-2 g c).each

pub returns-clause-total : goal.returns-clause-total
returns-clause-total g c = rw (← c.self.view_is) (same-sum c.self.inside.tenants.pairs c.self.invariant
    (g.T.LookupKey.names c.args.name.now) c.in-Some.own.now (sym c.in-Some.ensures.value) c.insert.new.map
    c.insert.ensures.budget)

pub returns-clause-puts : goal.returns-clause-puts
returns-clause-puts g c = rw (← c.self.view_is) (
  refl,
  on-written (g.met.T.LookupKey.laws.one c.args.name.now)
      (OfOpen (Puts g.L.Limiter.rules (offers_of g.L.Admission.terms) g.L.Budgeted.budget_of g.K.PartialEq.eq
      g.S.KeyHasher.hash_of c.args.key c.args.value))
      c.put_answer.result g.met.N.Eq.laws c.self.inside.tenants.pairs c.in-Some.own.now c.insert.new.map
      (sym c.in-Some.ensures.value) (record {
        left = c.insert.new.map;
        result = c.insert.result;
        inserts = c.insert.ensures.inserts;
        budget = c.insert.ensures.budget;
        said = c.put_answer.ensures;
        is = refl;
      }),
)

pub returns-clause-passed : goal.returns-clause-passed
returns-clause-passed g c = let (passed, takes, passes) = c.insert.ensures.passed in
    rw (← c.self.view_is) (
      passed,
      takes,
      (
        refl,
        on-written (g.met.T.LookupKey.laws.one c.args.name.now)
            (PassesOn (PutPasses g.L.Limiter.rules (offers_of g.L.Admission.terms) g.L.Budgeted.budget_of g.K.PartialEq.eq
            g.S.KeyHasher.hash_of c.args.key c.args.value))
            passed g.met.N.Eq.laws c.self.inside.tenants.pairs c.in-Some.own.now c.insert.new.map
            (sym c.in-Some.ensures.value) (record {
              left = c.insert.new.map;
              result = c.insert.result;
              inserts = passes;
              is = refl;
            }),
      ),
    )

pub returns-in_default-clause-passed : goal.returns-in_default-clause-passed
returns-in_default-clause-passed g c = rw (← c.self.view_is) (
  [],
  refl,
  (
    refl,
    on-same (g.met.T.LookupKey.laws.one c.args.name.now)
        (PassesOn (PutPasses g.L.Limiter.rules (offers_of g.L.Admission.terms) g.L.Budgeted.budget_of g.K.PartialEq.eq
        g.S.KeyHasher.hash_of c.args.key c.args.value))
        [] _ None (sym c.in_default.ensures.value) (refl, refl),
  ),
)

pub returns-in_default-clause-puts : goal.returns-in_default-clause-puts
returns-in_default-clause-puts g c = rw (← c.self.view_is) (
  refl,
  on-same (g.met.T.LookupKey.laws.one c.args.name.now)
      (OfOpen (Puts g.L.Limiter.rules (offers_of g.L.Admission.terms) g.L.Budgeted.budget_of g.K.PartialEq.eq
      g.S.KeyHasher.hash_of c.args.key c.args.value))
      _ _ None (sym c.in_default.ensures.value) (refl, refl),
)
