use Rattle.std.proofs.Common.{◌≡◌, true, false, None, Ok, Err, sym, refl, ◌∙◌, ap, arith}
use Rattle.lru_limits.specs.Admissions.{offers_of}
use Rattle.lru_tenants.specs.GetOrPuts.{newest_answer}
use Rattle.lru_tenants.specs.Lending.{read}
use Rattle.lru_tenants.specs.Counting.{counting_rules, counting_terms, IsCountingTenant}
use Rattle.lru_tenants.specs.TenantRuns.{OfOpen}
use Rattle.lru_tenants.specs.declared.error.TenantError.TheVariants.{NotOpen, Memory}
use Rattle.lru_tenants.proofs.Changes.{found-all, on-same}
use Rattle.lru_tenants.proofs.CountedGetOrPuts.{counted-ends, CountedCall}
use Rattle.lru_tenants.proofs.Kept.{kept-written}
use Rattle.lru_tenants.proofs.cache.counted.TenantCache+N+K+V+Counting+L+S.get_or_put_counted.Goals as goal

pub get_or_insert_counted-requires-clause-tenant : goal.get_or_insert_counted-requires-clause-tenant
get_or_insert_counted-requires-clause-tenant g c = found-all (IsCountingTenant g.K.PartialEq.eq g.L.Summing.cost_of
    g.L.Summing.account g.L.Budgeted.budget_of) (g.T.LookupKey.names c.args.name.now) c.self.inside.tenants.pairs
    c.in-Some.own.now (sym c.in-Some.ensures.value) c.self.invariant.each

pub returns-in_default : goal.returns-in_default
returns-in_default g c =
    rw (← c.self.view_is) (
      (
        refl,
        λ _. tt,
        (
          refl,
          on-same (g.met.T.LookupKey.laws.one c.args.name.now) (OfOpen (CountedCall (counting_rules g.L.Limiter.rules)
              (offers_of (counting_terms g.L.Admission.terms)) g.L.Budgeted.budget_of g.K.PartialEq.eq
              g.S.KeyHasher.hash_of (g.F.FnOnce.post c.args.make tt) c.args.key)) (Err NotOpen) _ None
              (sym c.in_default.ensures.value) (refl, refl),
        ),
      ),
      record { leaves = tt; not_open = λ _. refl; there = rw (← c.in_default.ensures.value) tt },
    )

pub invariant_of-self-in_default-get_or_insert_counted : goal.invariant_of-self-in_default-get_or_insert_counted
invariant_of-self-in_default-get_or_insert_counted g c = kept-written c.self.inside.tenants.pairs c.self.invariant
    (g.T.LookupKey.names c.args.name.now) c.in-Some.own.now (sym c.in-Some.ensures.value)
    c.get_or_insert_counted.new.map c.get_or_insert_counted.ensures.tenant c.get_or_insert_counted.ensures.budget

pub returns-in_default-get_or_insert_counted : goal.returns-in_default-get_or_insert_counted
returns-in_default-get_or_insert_counted g c = let u = c.get_or_insert_counted.new.map in
    rw (← c.self.view_is) (
    let ended = counted-ends (counting_rules g.L.Limiter.rules) (offers_of (counting_terms g.L.Admission.terms))
    g.L.Budgeted.budget_of g.K.PartialEq.eq g.S.KeyHasher.hash_of (g.F.FnOnce.post c.args.make tt) c.args.key
    (Err Memory) c.in-Some.own.now (Err c.in_default-get_or_insert_counted.field-0) u refl
    c.in_default-get_or_insert_counted.ensures.step c.in_default-get_or_insert_counted.ensures.newest
    c.in_default-get_or_insert_counted.ensures.budget
    (g.met.T.LookupKey.laws.one c.args.name.now) g.met.N.Eq.laws c.self.inside.tenants.pairs (sym c.in-Some.ensures.value) in
    ((refl, λ _. tt, (refl, ended.on)), record { leaves = tt; not_open = ended.not_open; there = ended.there })
    )

pub invariant_of-self-then-not-there : goal.invariant_of-self-then-not-there
invariant_of-self-then-not-there g c = kept-written c.self.inside.tenants.pairs c.self.invariant
    (g.T.LookupKey.names c.args.name.now) c.in-Some.own.now (sym c.in-Some.ensures.value)
    c.get_or_insert_counted.new.map c.get_or_insert_counted.ensures.tenant c.get_or_insert_counted.ensures.budget

pub returns-then-not-there : goal.returns-then-not-there
returns-then-not-there g c = let u = c.get_or_insert_counted.new.map in
    let e : c.in-Ok.there ≡ false = grind (arith, c.if-not-there.true) in
    rw (← c.self.view_is) (
    let ended = counted-ends (counting_rules g.L.Limiter.rules) (offers_of (counting_terms g.L.Admission.terms))
    g.L.Budgeted.budget_of g.K.PartialEq.eq g.S.KeyHasher.hash_of (g.F.FnOnce.post c.args.make tt) c.args.key
    (Ok None) c.in-Some.own.now (Ok c.in-Ok.there) u (sym (ap (λ b. newest_answer (Ok b) u) e))
    c.in-Ok.ensures.step c.in-Ok.ensures.newest c.in-Ok.ensures.budget
    (g.met.T.LookupKey.laws.one c.args.name.now) g.met.N.Eq.laws c.self.inside.tenants.pairs (sym c.in-Some.ensures.value) in
    ((refl, λ _. tt, (refl, ended.on)), record { leaves = tt; not_open = ended.not_open; there = ended.there })
    )

pub invariant_of-self-2 : goal.invariant_of-self-2
invariant_of-self-2 g c = kept-written c.self.inside.tenants.pairs c.self.invariant
    (g.T.LookupKey.names c.args.name.now) c.in-Some.own.now (sym c.in-Some.ensures.value)
    c.get_or_insert_counted.new.map c.get_or_insert_counted.ensures.tenant c.get_or_insert_counted.ensures.budget

pub returns : goal.returns
returns g c = let u = c.get_or_insert_counted.new.map in
    let e : c.in-Ok.there ≡ true = grind (arith, c.if-not-there.false) in
    rw (← c.self.view_is) (
    let ended = counted-ends (counting_rules g.L.Limiter.rules) (offers_of (counting_terms g.L.Admission.terms))
    g.L.Budgeted.budget_of g.K.PartialEq.eq g.S.KeyHasher.hash_of (g.F.FnOnce.post c.args.make tt) c.args.key
    (read (Ok c.newest.result)) c.in-Some.own.now (Ok c.in-Ok.there) u
    (ap Ok c.newest.ensures ∙ sym (ap (λ b. newest_answer (Ok b) u) e))
    c.in-Ok.ensures.step c.in-Ok.ensures.newest c.in-Ok.ensures.budget
    (g.met.T.LookupKey.laws.one c.args.name.now) g.met.N.Eq.laws c.self.inside.tenants.pairs (sym c.in-Some.ensures.value) in
    ((refl, λ _. tt, (refl, ended.on)), record { leaves = tt; not_open = ended.not_open; there = ended.there })
    )
