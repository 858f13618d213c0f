use Rattle.std.proofs.Common.{◌≡◌, true, [], Some, None, Ok, false, sym, refl, ap, ◌∙◌, subst}
use Rattle.std.specs.Map.{set_value}
use Rattle.std.specs.Prelude.{IfSome}
use Rattle.lru_limits.specs.Admissions.{offers_of}
use Rattle.lru_model.specs.Inserts.{kept_of}
use Rattle.lru_model.specs.Lists.{lookup}
use Rattle.lru_tenants.specs.Cache.{IsTenant}
use Rattle.lru_tenants.specs.PutFulls.{rejects}
use Rattle.lru_tenants.specs.TenantRuns.{put_answer, OfOpen, Puts, PutPasses, PassesOn}
use Rattle.lru_tenants.proofs.Changes.{found-all, on-same, on-written, written}
use Rattle.lru_tenants.proofs.PutFulls.{kept-answer}
use Rattle.lru_tenants.proofs.Kept.{kept-written, same-sum}
use Rattle.lru_tenants.proofs.cache.TenantCache.put_full.Goals as goal

pub insert_full-requires-clause-tenant : goal.insert_full-requires-clause-tenant
insert_full-requires-clause-tenant g c = found-all (IsTenant g.K.PartialEq.eq g.L.Summing.cost_of g.L.Summing.account
    g.L.Budgeted.budget_of) (g.T.LookupKey.names c.args.name.now) c.self.inside.tenants.pairs c.in-Some.own.now
    (sym c.in-Some.ensures.value) c.self.invariant.each

pub invariant_of-self-2 : goal.invariant_of-self-2
invariant_of-self-2 g c = kept-written c.self.inside.tenants.pairs c.self.invariant
    (g.T.LookupKey.names c.args.name.now) c.in-Some.own.now (sym c.in-Some.ensures.value) c.insert_full.new.map
    c.insert_full.ensures.tenant c.insert_full.ensures.budget

pub returns-clause-tenants : goal.returns-clause-tenants
returns-clause-tenants g c = (invariant_of-self-2 g c).each

pub returns-clause-total : goal.returns-clause-total
returns-clause-total g c = rw (← c.self.view_is) (same-sum c.self.inside.tenants.pairs c.self.invariant
    (g.T.LookupKey.names c.args.name.now) c.in-Some.own.now (sym c.in-Some.ensures.value) c.insert_full.new.map
    c.insert_full.ensures.budget)

pub returns-clause-puts : goal.returns-clause-puts
returns-clause-puts g c = rw (← c.self.view_is) (
  refl,
  on-written (g.met.T.LookupKey.laws.one c.args.name.now)
      (OfOpen (Puts g.L.Limiter.rules (offers_of g.L.Admission.terms) g.L.Budgeted.budget_of g.K.PartialEq.eq
      g.S.KeyHasher.hash_of c.args.key c.args.value))
      (kept_of c.put_answer.result) g.met.N.Eq.laws c.self.inside.tenants.pairs c.in-Some.own.now c.insert_full.new.map
      (sym c.in-Some.ensures.value) (record {
        left = c.insert_full.new.map;
        result = kept_of c.insert_full.result;
        inserts = c.insert_full.ensures.inserts;
        budget = c.insert_full.ensures.budget;
        said = ap kept_of c.put_answer.ensures ∙ kept-answer c.insert_full.result;
        is = refl;
      }),
)

pub returns-clause-passed : goal.returns-clause-passed
returns-clause-passed g c = let (passed, takes, passes) = c.insert_full.ensures.passed in
    rw (← c.self.view_is) (
      passed,
      takes,
      (
        refl,
        on-written (g.met.T.LookupKey.laws.one c.args.name.now)
            (PassesOn (PutPasses g.L.Limiter.rules (offers_of g.L.Admission.terms) g.L.Budgeted.budget_of g.K.PartialEq.eq
            g.S.KeyHasher.hash_of c.args.key c.args.value))
            passed g.met.N.Eq.laws c.self.inside.tenants.pairs c.in-Some.own.now c.insert_full.new.map
            (sym c.in-Some.ensures.value) (record {
              left = c.insert_full.new.map;
              result = kept_of c.insert_full.result;
              inserts = passes;
              is = refl;
            }),
      ),
    )

pub returns-in_default-clause-passed : goal.returns-in_default-clause-passed
returns-in_default-clause-passed g c = rw (← c.self.view_is) (
  [],
  refl,
  (
    refl,
    on-same (g.met.T.LookupKey.laws.one c.args.name.now)
        (PassesOn (PutPasses g.L.Limiter.rules (offers_of g.L.Admission.terms) g.L.Budgeted.budget_of g.K.PartialEq.eq
        g.S.KeyHasher.hash_of c.args.key c.args.value))
        [] _ None (sym c.in_default.ensures.value) (refl, refl),
  ),
)

pub returns-clause-rejects : goal.returns-clause-rejects
returns-clause-rejects g c = let u = c.insert_full.new.map in
    let there = sym c.in-Some.ensures.value in
    let names = g.T.LookupKey.names c.args.name.now in
    rw (← c.self.view_is) (subst (λ o. IfSome o
    (λ map. rejects g.L.Admission.terms g.K.PartialEq.eq c.args.key c.args.value map ≡ true →
    (c.put_answer.result ≡ Ok (record { kept = false; unkept = Some c.args.value }))
    × (lookup names (set_value names c.self.inside.tenants.pairs u) ≡ Some map)))
    c.in-Some.ensures.value (λ rejected. let (says, same) = c.insert_full.ensures.rejects rejected in (
      c.put_answer.ensures ∙ ap put_answer says,
      written (g.met.T.LookupKey.laws.one c.args.name.now) g.met.N.Eq.laws c.self.inside.tenants.pairs c.in-Some.own.now
          u there ∙ ap Some same,
    )))

pub returns-in_default-clause-puts : goal.returns-in_default-clause-puts
returns-in_default-clause-puts g c = rw (← c.self.view_is) (
  refl,
  on-same (g.met.T.LookupKey.laws.one c.args.name.now)
      (OfOpen (Puts g.L.Limiter.rules (offers_of g.L.Admission.terms) g.L.Budgeted.budget_of g.K.PartialEq.eq
      g.S.KeyHasher.hash_of c.args.key c.args.value))
      _ _ None (sym c.in_default.ensures.value) (refl, refl),
)
