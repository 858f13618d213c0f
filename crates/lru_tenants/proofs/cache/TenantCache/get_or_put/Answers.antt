use Rattle.std.proofs.Common.{◌≡◌, true, false, None, Ok, Err, sym, refl, ◌∙◌, ap, arith}
use Rattle.lru_limits.specs.Admissions.{offers_of}
use Rattle.lru_tenants.specs.GetOrPuts.{GetsOrPuts, newest_answer}
use Rattle.lru_tenants.specs.Lending.{read}
use Rattle.lru_tenants.specs.Cache.{IsTenant}
use Rattle.lru_tenants.specs.TenantRuns.{OfOpen}
use Rattle.lru_tenants.specs.declared.error.TenantError.TheVariants.{NotOpen, Memory}
use Rattle.lru_tenants.proofs.Changes.{found-all, on-same}
use Rattle.lru_tenants.proofs.GetOrPuts.{ends}
use Rattle.lru_tenants.proofs.Kept.{kept-written}
use Rattle.lru_tenants.proofs.cache.TenantCache.get_or_put.Goals as goal

pub get_or_insert-requires-clause-tenant : goal.get_or_insert-requires-clause-tenant
get_or_insert-requires-clause-tenant g c = found-all (IsTenant g.K.PartialEq.eq g.L.Summing.cost_of g.L.Summing.account
    g.L.Budgeted.budget_of) (g.T.LookupKey.names c.args.name.now) c.self.inside.tenants.pairs c.in-Some.own.now
    (sym c.in-Some.ensures.value) c.self.invariant.each

pub returns-in_default : goal.returns-in_default
returns-in_default g c =
    rw (← c.self.view_is) (
      (
        refl,
        λ _. tt,
        (
          refl,
          on-same (g.met.T.LookupKey.laws.one c.args.name.now) (OfOpen (GetsOrPuts g.L.Limiter.rules (offers_of g.L.Admission.terms) g.L.Budgeted.budget_of
              g.K.PartialEq.eq g.S.KeyHasher.hash_of (g.F.FnOnce.post c.args.make tt) c.args.key)) (Err NotOpen) _ None
              (sym c.in_default.ensures.value) (refl, refl),
        ),
      ),
      record { leaves = tt; not_open = λ _. refl; there = rw (← c.in_default.ensures.value) tt },
    )

pub invariant_of-self-in_default-get_or_insert : goal.invariant_of-self-in_default-get_or_insert
invariant_of-self-in_default-get_or_insert g c = kept-written c.self.inside.tenants.pairs c.self.invariant
    (g.T.LookupKey.names c.args.name.now) c.in-Some.own.now (sym c.in-Some.ensures.value) c.get_or_insert.new.map
    c.get_or_insert.ensures.tenant c.get_or_insert.ensures.budget

pub returns-in_default-get_or_insert : goal.returns-in_default-get_or_insert
returns-in_default-get_or_insert g c = let u = c.get_or_insert.new.map in
    rw (← c.self.view_is) (
    let ended = ends g.L.Limiter.rules (offers_of g.L.Admission.terms) g.L.Budgeted.budget_of g.K.PartialEq.eq
    g.S.KeyHasher.hash_of (g.F.FnOnce.post c.args.make tt) c.args.key (Err Memory)
    (g.met.T.LookupKey.laws.one c.args.name.now) g.met.N.Eq.laws c.self.inside.tenants.pairs c.in-Some.own.now u
    (sym c.in-Some.ensures.value) (record {
      left = u;
      result = Err c.in_default-get_or_insert.field-0;
      step = c.in_default-get_or_insert.ensures.step;
      budget = c.in_default-get_or_insert.ensures.budget;
      said = refl;
      is = refl;
    }) in
    ((refl, λ _. tt, (refl, ended.on)), record { leaves = tt; not_open = ended.not_open; there = ended.there })
    )

pub invariant_of-self-then-not-there : goal.invariant_of-self-then-not-there
invariant_of-self-then-not-there g c = kept-written c.self.inside.tenants.pairs c.self.invariant
    (g.T.LookupKey.names c.args.name.now) c.in-Some.own.now (sym c.in-Some.ensures.value) c.get_or_insert.new.map
    c.get_or_insert.ensures.tenant c.get_or_insert.ensures.budget

pub returns-then-not-there : goal.returns-then-not-there
returns-then-not-there g c = let u = c.get_or_insert.new.map in
    let e : c.in-Ok.there ≡ false = grind (arith, c.if-not-there.true) in
    rw (← c.self.view_is) (
    let ended = ends g.L.Limiter.rules (offers_of g.L.Admission.terms) g.L.Budgeted.budget_of g.K.PartialEq.eq
    g.S.KeyHasher.hash_of (g.F.FnOnce.post c.args.make tt) c.args.key (Ok None)
    (g.met.T.LookupKey.laws.one c.args.name.now) g.met.N.Eq.laws c.self.inside.tenants.pairs c.in-Some.own.now u
    (sym c.in-Some.ensures.value) (record {
      left = u;
      result = Ok c.in-Ok.there;
      step = c.in-Ok.ensures.step;
      budget = c.in-Ok.ensures.budget;
      said = sym (ap (λ b. newest_answer (Ok b) u) e);
      is = refl;
    }) in
    ((refl, λ _. tt, (refl, ended.on)), record { leaves = tt; not_open = ended.not_open; there = ended.there })
    )

pub invariant_of-self-2 : goal.invariant_of-self-2
invariant_of-self-2 g c = kept-written c.self.inside.tenants.pairs c.self.invariant
    (g.T.LookupKey.names c.args.name.now) c.in-Some.own.now (sym c.in-Some.ensures.value) c.get_or_insert.new.map
    c.get_or_insert.ensures.tenant c.get_or_insert.ensures.budget

pub returns : goal.returns
returns g c = let u = c.get_or_insert.new.map in
    let e : c.in-Ok.there ≡ true = grind (arith, c.if-not-there.false) in
    rw (← c.self.view_is) (
    let ended = ends g.L.Limiter.rules (offers_of g.L.Admission.terms) g.L.Budgeted.budget_of g.K.PartialEq.eq
    g.S.KeyHasher.hash_of (g.F.FnOnce.post c.args.make tt) c.args.key (read (Ok c.newest.result))
    (g.met.T.LookupKey.laws.one c.args.name.now) g.met.N.Eq.laws c.self.inside.tenants.pairs c.in-Some.own.now u
    (sym c.in-Some.ensures.value) (record {
      left = u;
      result = Ok c.in-Ok.there;
      step = c.in-Ok.ensures.step;
      budget = c.in-Ok.ensures.budget;
      said = ap Ok c.newest.ensures ∙ sym (ap (λ b. newest_answer (Ok b) u) e);
      is = refl;
    }) in
    ((refl, λ _. tt, (refl, ended.on)), record { leaves = tt; not_open = ended.not_open; there = ended.there })
    )
