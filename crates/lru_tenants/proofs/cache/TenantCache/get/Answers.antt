use Rattle.std.proofs.Common.{subst, Some, None, Ok, Err, sym, refl, ap, ◌∙◌}
use Rattle.lru_model.specs.Calls.{promoted, written}
use Rattle.lru_model.specs.Lists.{lookup}
use Rattle.lru_model.proofs.CallerLemmas.{read_back, promoted-absent}
use Rattle.lru_tenants.specs.Cache.{IsTenant}
use Rattle.lru_tenants.specs.TenantRuns.{read_of, Gets}
use Rattle.lru_tenants.specs.declared.error.TenantError.TheVariants.{NotOpen}
use Rattle.lru_tenants.proofs.Changes.{found-all, on-same, on-written}
use Rattle.lru_tenants.proofs.Gets.{promoted_is_tenant}
use Rattle.lru_tenants.proofs.Kept.{kept-written}
use Rattle.lru_tenants.proofs.cache.TenantCache.get.Goals as goal

pub invariant_of-self-in-Some-get : goal.invariant_of-self-in-Some-get
invariant_of-self-in-Some-get g c =
    let key = g.Q.LookupKey.names c.args.key.now in
    let map = c.in-Some.map.now in
    let named = g.T.LookupKey.names c.args.name.now in
    let there = sym c.in-Some.ensures.value in
    let was = found-all (IsTenant g.K.PartialEq.eq g.L.Summing.cost_of g.L.Summing.account g.L.Budgeted.budget_of)
    named c.self.inside.tenants.pairs map there c.self.invariant.each in
    let back = read_back key map c.in-Some-get.value.now (sym c.in-Some-get.ensures.value) in
    let is = subst (IsTenant g.K.PartialEq.eq g.L.Summing.cost_of g.L.Summing.account g.L.Budgeted.budget_of) (sym back)
    (promoted_is_tenant g.met.Q.LookupKey.laws c.args.key.now g.L.Summing.cost_of g.L.Summing.account
    g.L.Budgeted.budget_of map was) in
    kept-written c.self.inside.tenants.pairs c.self.invariant named map there
    (written key c.in-Some-get.value.now (promoted key map)) is refl

pub invariant_of-self-in-None : goal.invariant_of-self-in-None
invariant_of-self-in-None g c =
    let map = c.in-Some.map.now in
    let named = g.T.LookupKey.names c.args.name.now in
    let there = sym c.in-Some.ensures.value in
    let was = found-all (IsTenant g.K.PartialEq.eq g.L.Summing.cost_of g.L.Summing.account g.L.Budgeted.budget_of)
    named c.self.inside.tenants.pairs map there c.self.invariant.each in
    kept-written c.self.inside.tenants.pairs c.self.invariant named map there map was refl

pub returns-in-Some-get : goal.returns-in-Some-get
returns-in-Some-get g c =
    let key = g.Q.LookupKey.names c.args.key.now in
    let map = c.in-Some.map.now in
    let named = g.T.LookupKey.names c.args.name.now in
    let left = written key c.in-Some-get.value.now (promoted key map) in
    let there = sym c.in-Some.ensures.value in
    let found = c.in-Some-get.ensures.value in
    rw (← c.self.view_is) (
      (
        refl,
        λ _. tt,
        (
          refl,
          on-written (g.met.T.LookupKey.laws.one c.args.name.now) (Gets key) _ g.met.N.Eq.laws
              c.self.inside.tenants.pairs map left there
              (ap Ok found, ap Some (read_back key map c.in-Some-get.value.now (sym found))),
        ),
      ),
      record { leaves = tt; value = ap Ok found ∙ sym (ap (read_of (λ map. lookup key map.pairs)) there) },
    )

pub returns-in-None : goal.returns-in-None
returns-in-None g c =
    let key = g.Q.LookupKey.names c.args.key.now in
    let map = c.in-Some.map.now in
    let named = g.T.LookupKey.names c.args.name.now in
    let there = sym c.in-Some.ensures.value in
    let found = c.in-None.ensures.value in
    rw (← c.self.view_is) (
      (
        refl,
        λ _. tt,
        (
          refl,
          on-written (g.met.T.LookupKey.laws.one c.args.name.now) (Gets key) _ g.met.N.Eq.laws
              c.self.inside.tenants.pairs map map there
              (ap Ok found, ap Some (sym (promoted-absent key map (sym found)))),
        ),
      ),
      record { leaves = tt; value = ap Ok found ∙ sym (ap (read_of (λ map. lookup key map.pairs)) there) },
    )

pub returns-in_default : goal.returns-in_default
returns-in_default g c =
    let key = g.Q.LookupKey.names c.args.key.now in
    let none = sym c.in_default.ensures.value in
    rw (← c.self.view_is) (
      (
        refl,
        λ _. tt,
        (refl, on-same (g.met.T.LookupKey.laws.one c.args.name.now) (Gets key) (Err NotOpen) _ None none (refl, refl)),
      ),
      record { leaves = tt; value = sym (ap (read_of (λ map. lookup key map.pairs)) none) },
    )
