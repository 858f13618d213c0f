use Rattle.std.proofs.Common.{◌≡◌, is_some, true, false, None, Ok, Err, sym, refl, ap, ◌∙◌, arith}
use Rattle.lru_model.specs.Lists.{lookup}
use Rattle.lru_tenants.specs.Counting.{CountsGet, IsCountingTenant}
use Rattle.lru_tenants.specs.TenantRuns.{read_of, IfOpen}
use Rattle.lru_tenants.specs.declared.error.TenantError.TheVariants.{NotOpen}
use Rattle.lru_tenants.proofs.Changes.{found-all, on-same, on-written}
use Rattle.lru_tenants.proofs.CountedGets.{absent-newest, counts-get, found-newest}
use Rattle.lru_tenants.proofs.Kept.{kept-written}
use Rattle.lru_tenants.proofs.cache.counted.TenantCache+N+K+V+Counting+L+S.get_counted.Goals as goal

pub look_up-requires : goal.look_up-requires
look_up-requires g c = found-all (IsCountingTenant g.K.PartialEq.eq g.L.Summing.cost_of g.L.Summing.account
    g.L.Budgeted.budget_of) (g.T.LookupKey.names c.args.name.now) c.self.inside.tenants.pairs c.in-Some.own.now
    (sym c.in-Some.ensures.value) c.self.invariant.each

pub invariant_of-self-then-not-look_up : goal.invariant_of-self-then-not-look_up
invariant_of-self-then-not-look_up g c = kept-written c.self.inside.tenants.pairs c.self.invariant
    (g.T.LookupKey.names c.args.name.now) c.in-Some.own.now (sym c.in-Some.ensures.value) c.look_up.new.map
    c.look_up.ensures.tenant (ap (λ st. g.L.Budgeted.budget_of st.limiter.limiter) c.look_up.ensures.map)

pub returns-then-not-look_up : goal.returns-then-not-look_up
returns-then-not-look_up g c =
    let key = g.Q.LookupKey.names c.args.key.now in let own = c.in-Some.own.now in
    let there = sym c.in-Some.ensures.value in
    let e : c.look_up.result ≡ false = grind (arith, c.if-not-look_up.true) in
    let none = absent-newest key own.pairs c.look_up.result c.look_up.ensures.there e in
    rw (← c.self.view_is) (
      (
        refl,
        λ _. tt,
        (
          refl,
          on-written (g.met.T.LookupKey.laws.one c.args.name.now) (IfOpen (CountsGet key)) (Ok None) g.met.N.Eq.laws
              c.self.inside.tenants.pairs own c.look_up.new.map there
              (counts-get key own c.look_up.new.map None c.look_up.result (sym none) (sym e) c.look_up.ensures.map),
        ),
      ),
      record { leaves = tt; value = ap Ok (sym none) ∙ sym (ap (read_of (λ map. lookup key map.pairs)) there) },
    )

pub invariant_of-self-2 : goal.invariant_of-self-2
invariant_of-self-2 g c = kept-written c.self.inside.tenants.pairs c.self.invariant
    (g.T.LookupKey.names c.args.name.now) c.in-Some.own.now (sym c.in-Some.ensures.value) c.look_up.new.map
    c.look_up.ensures.tenant (ap (λ st. g.L.Budgeted.budget_of st.limiter.limiter) c.look_up.ensures.map)

pub returns : goal.returns
returns g c =
    let key = g.Q.LookupKey.names c.args.key.now in let own = c.in-Some.own.now in
    let there = sym c.in-Some.ensures.value in
    let e : c.look_up.result ≡ true = grind (arith, c.if-not-look_up.false) in
    let value = c.newest.ensures ∙ found-newest key own c.look_up.new.map c.look_up.result c.look_up.ensures.there e
    c.look_up.ensures.map in
    rw (← c.self.view_is) (
      (
        refl,
        λ _. tt,
        (
          refl,
          on-written (g.met.T.LookupKey.laws.one c.args.name.now) (IfOpen (CountsGet key)) _ g.met.N.Eq.laws
              c.self.inside.tenants.pairs own c.look_up.new.map there
              (counts-get key own c.look_up.new.map _ c.look_up.result value
              (ap is_some value ∙ sym c.look_up.ensures.there) c.look_up.ensures.map),
        ),
      ),
      record { leaves = tt; value = ap Ok value ∙ sym (ap (read_of (λ map. lookup key map.pairs)) there) },
    )

pub returns-in_default : goal.returns-in_default
returns-in_default g c =
    let key = g.Q.LookupKey.names c.args.key.now in
    let none = sym c.in_default.ensures.value in
    rw (← c.self.view_is) (
      (
        refl,
        λ _. tt,
        (refl, on-same (g.met.T.LookupKey.laws.one c.args.name.now) (IfOpen (CountsGet key)) (Err NotOpen) _ None none (refl, refl)),
      ),
      record { leaves = tt; value = sym (ap (read_of (λ map. lookup key map.pairs)) none) },
    )
