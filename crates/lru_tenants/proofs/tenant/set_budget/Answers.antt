use Rattle.std.proofs.Common.{◌∙◌, ap, subst, arith, inl, inr, sum_by}
use Rattle.lru_model.specs.Runs.Step.{trims}
use Rattle.lru_model.specs.State.{Trims}
use Rattle.lru_tenants.specs.Cache.{with_limiter}
use Rattle.lru_model.proofs.Theorems.BudgetLimits.{not_over}
use Rattle.lru_tenants.proofs.tenant.set_budget.Goals as goal

pub returns-clause-tenant : goal.returns-clause-tenant
returns-clause-tenant g c =
    let new = c.trim_with.new.self in
    let laws = g.met.L.Budgeted.laws in
    let old = with_limiter (g.L.Budgeted.rebudgeted c.args.budget c.args.map.now.limiter) c.args.map.now in
    let limiter = c.set_budget.ensures ∙ ap (g.L.Budgeted.rebudgeted c.args.budget) c.limiter_mut.ensures.value in
    let step = subst (λ l. Trims g.L.Limiter.rules (with_limiter l c.args.map.now) new) limiter
    c.trim_with.ensures.step in
    let sum = c.calls_keep_sums.ensures _ _ g.met.L.Summing.laws old new (trims step)
    (laws.set_keeps c.args.budget c.args.map.now.limiter ∙ c.requires.tenant.sum) in
    record {
      map = c.trim_with.ensures.map;
      sum = sum;
      within = elim c.trim_with.ensures.within [
        | inl none ↦ omega (arith, sum, ap (sum_by (λ p. g.L.Summing.cost_of p.0 p.1)) none)
        | inr within ↦ not_over laws new.limiter _ within
      ];
      small = omega (
        arith,
        c.calls_keep_the_budget.ensures.budget old new (trims step),
        laws.set_budget c.args.budget c.args.map.now.limiter,
      );
    }

pub returns-clause-budget : goal.returns-clause-budget
returns-clause-budget g c =
    let new = c.trim_with.new.self in
    let old = with_limiter (g.L.Budgeted.rebudgeted c.args.budget c.args.map.now.limiter) c.args.map.now in
    let limiter = c.set_budget.ensures ∙ ap (g.L.Budgeted.rebudgeted c.args.budget) c.limiter_mut.ensures.value in
    let step = subst (λ l. Trims g.L.Limiter.rules (with_limiter l c.args.map.now) new) limiter
    c.trim_with.ensures.step in
    c.calls_keep_the_budget.ensures.budget old new (trims step)
    ∙ g.met.L.Budgeted.laws.set_budget c.args.budget c.args.map.now.limiter
