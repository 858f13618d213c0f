use Rattle.std.proofs.Common.{rules, ◌+◌, ◌-◌, [], None, Some, Err, Ok, arith, sym, refl, ◌∙◌, ap, subst}
use Rattle.std.proofs.lemmas.Map.Steps.{set_value_same}
use Rattle.lru_tenants.specs.Cache.{IsTenant, is_above}
use Rattle.lru_tenants.specs.TenantRuns.{OfOpen, SetsBudget, BudgetPasses, PassesOn}
use Rattle.lru_tenants.specs.declared.error.TenantError.TheVariants.{OverTotal}
use Rattle.lru_tenants.proofs.Changes.{found-all, on-same, on-written}
use Rattle.lru_tenants.proofs.Kept.{kept-rebudgeted, kept-written, own-within, sum-fits, sum-with, sum-written}
use Rattle.lru_tenants.proofs.cache.TenantCache.set_budget_with.Goals as goal

pub set_budget-requires-clause-tenant : goal.set_budget-requires-clause-tenant
set_budget-requires-clause-tenant g c = found-all (IsTenant g.K.PartialEq.eq g.L.Summing.cost_of g.L.Summing.account
    g.L.Budgeted.budget_of) (g.T.LookupKey.names c.args.name.now) c.self.inside.tenants.pairs c.in-Some.own.now
    (sym c.in-Some.ensures.value) c.self.invariant.each

pub overflow_sub-sum : goal.overflow_sub-sum
overflow_sub-sum g c = omega (
  arith,
  c.budget.ensures ∙ ap g.L.Budgeted.budget_of c.limiter.ensures,
  own-within c.self.inside.tenants.pairs c.self.invariant (g.T.LookupKey.names c.args.name.now)
      c.in-Some.own.now (sym c.in-Some.ensures.value),
)

pub overflow_add-sum : goal.overflow_add-sum
overflow_add-sum g c = omega (
  arith,
  sum-fits c.self.inside.tenants.pairs c.self.invariant (omega (arith, c.len-len.ensures.len)),
)

pub invariant_of-self-then-is_above : goal.invariant_of-self-then-is_above
invariant_of-self-then-is_above g c = let own = c.in-Some.own.now in
    let names = g.T.LookupKey.names c.args.name.now in
    let there = sym c.in-Some.ensures.value in
    kept-written c.self.inside.tenants.pairs c.self.invariant names own there own
    (found-all (IsTenant g.K.PartialEq.eq g.L.Summing.cost_of g.L.Summing.account g.L.Budgeted.budget_of) names
    c.self.inside.tenants.pairs own there c.self.invariant.each) refl

pub returns-then-is_above : goal.returns-then-is_above
returns-then-is_above g c = let own = c.in-Some.own.now in
    let names = g.T.LookupKey.names c.args.name.now in
    let there = sym c.in-Some.ensures.value in
    let over = ap (is_above c.self.inside.total_limit)
    (sym (sum-with c.self.inside.tenants.pairs c.self.invariant names own there c.self.inside.hasher
    c.budget.result c.args.budget
    (c.budget.ensures ∙ ap g.L.Budgeted.budget_of c.limiter.ensures))) ∙ sym c.is_above.ensures ∙
    c.if-is_above.true in
    rw (← c.self.view_is) (record {
      sets = (
        refl,
        on-written (g.met.T.LookupKey.laws.one c.args.name.now)
            (OfOpen (SetsBudget g.L.Limiter.rules (g.L.Budgeted.rebudgeted c.args.budget) _)) (Err OverTotal)
            g.met.N.Eq.laws c.self.inside.tenants.pairs own own there
            (subst (λ b. SetsBudget g.L.Limiter.rules (g.L.Budgeted.rebudgeted c.args.budget) b own
            (Err OverTotal) (Some own)) (sym over) (refl, refl)),
      );
      total = search rules;
      unchanged = ap (λ entries. record {
        tenants = entries;
        hasher = c.self.inside.hasher;
        total_limit = c.self.inside.total_limit;
      }) (set_value_same names c.self.inside.tenants.pairs own there);
      passed = (
        [],
        refl,
        (
          refl,
          on-written (g.met.T.LookupKey.laws.one c.args.name.now)
              (PassesOn (BudgetPasses g.L.Limiter.rules (g.L.Budgeted.rebudgeted c.args.budget) _)) []
              g.met.N.Eq.laws c.self.inside.tenants.pairs own own there
              (subst (λ b. PassesOn (BudgetPasses g.L.Limiter.rules (g.L.Budgeted.rebudgeted c.args.budget) b)
              (Some own) [] (Some own)) (sym over) (refl, refl)),
        ),
      );
      callable = search rules;
      tenants = (invariant_of-self-then-is_above g c).each;
    })

pub invariant_of-self-2 : goal.invariant_of-self-2
invariant_of-self-2 g c = let names = g.T.LookupKey.names c.args.name.now in
    let there = sym c.in-Some.ensures.value in
    kept-rebudgeted c.self.inside.tenants.pairs c.self.invariant names c.in-Some.own.now there
    c.set_budget.new.map c.set_budget.ensures.tenant
    (c.self.inside.budgets - c.budget.result + c.args.budget)
    (omega (
      arith,
      c.budget.ensures ∙ ap g.L.Budgeted.budget_of c.limiter.ensures,
      c.set_budget.ensures.budget,
      own-within c.self.inside.tenants.pairs c.self.invariant names c.in-Some.own.now there,
    ))
    (sym c.is_above.ensures ∙ c.if-is_above.false)

pub returns : goal.returns
returns g c = let u = c.set_budget.new.map in
    let own = c.in-Some.own.now in
    let names = g.T.LookupKey.names c.args.name.now in
    let there = sym c.in-Some.ensures.value in
    let budget = c.budget.ensures ∙ ap g.L.Budgeted.budget_of c.limiter.ensures in
    let (passed, takes, passes) = c.set_budget.ensures.passed in
    let with = sum-with c.self.inside.tenants.pairs c.self.invariant names own there c.self.inside.hasher
    c.budget.result c.args.budget budget in
    let over = ap (is_above c.self.inside.total_limit) (sym with) ∙ sym c.is_above.ensures ∙ c.if-is_above.false in
    rw (← c.self.view_is) (record {
      sets = (
        refl,
        on-written (g.met.T.LookupKey.laws.one c.args.name.now)
            (OfOpen (SetsBudget g.L.Limiter.rules (g.L.Budgeted.rebudgeted c.args.budget) _)) (Ok tt)
            g.met.N.Eq.laws c.self.inside.tenants.pairs own u there
            (subst (λ b. SetsBudget g.L.Limiter.rules (g.L.Budgeted.rebudgeted c.args.budget) b own (Ok tt)
            (Some u)) (sym over) (u, c.set_budget.ensures.trims, refl, refl)),
      );
      total = λ ok. omega (
        arith,
        budget,
        sum-written c.self.inside.tenants.pairs c.self.invariant names own there u,
        with,
        c.set_budget.ensures.budget,
        own-within c.self.inside.tenants.pairs c.self.invariant names own there,
      );
      unchanged = search rules;
      passed = (
        passed,
        takes,
        (
          refl,
          on-written (g.met.T.LookupKey.laws.one c.args.name.now)
              (PassesOn (BudgetPasses g.L.Limiter.rules (g.L.Budgeted.rebudgeted c.args.budget) _)) passed
              g.met.N.Eq.laws c.self.inside.tenants.pairs own u there
              (subst (λ b. PassesOn (BudgetPasses g.L.Limiter.rules (g.L.Budgeted.rebudgeted c.args.budget) b)
              (Some own) passed (Some u)) (sym over) (u, passes, refl)),
        ),
      );
      callable = search rules;
      tenants = (invariant_of-self-2 g c).each;
    })

pub returns-in_default-clause-passed : goal.returns-in_default-clause-passed
returns-in_default-clause-passed g c = rw (← c.self.view_is) (
  [],
  refl,
  (
    refl,
    on-same (g.met.T.LookupKey.laws.one c.args.name.now)
        (PassesOn (BudgetPasses g.L.Limiter.rules (g.L.Budgeted.rebudgeted c.args.budget) _)) [] _ None
        (sym c.in_default.ensures.value) (refl, refl),
  ),
)

pub returns-in_default-clause-sets : goal.returns-in_default-clause-sets
returns-in_default-clause-sets g c = rw (← c.self.view_is) (
  refl,
  on-same (g.met.T.LookupKey.laws.one c.args.name.now)
      (OfOpen (SetsBudget g.L.Limiter.rules (g.L.Budgeted.rebudgeted c.args.budget) _)) _ _ None
      (sym c.in_default.ensures.value) (refl, refl),
)
