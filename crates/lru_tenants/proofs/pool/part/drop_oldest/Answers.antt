use Rattle.std.proofs.Common.{◌-◌, ◌∷◌, [], arith, refl, sym, ap, ◌∙◌, subst, length, length-append}
use Rattle.std.proofs.lemmas.Option.{none-some}
use Rattle.lru_model.specs.Calls.{PopOldest}
use Rattle.lru_model.specs.Runs.Step.{pops_oldest}
use Rattle.lru_model.proofs.Theorems.Fronts.{front_same, front_trans, front_without_last}
use Rattle.lru_tenants.proofs.PoolPuts.{cost-falls, pops-some}
use Rattle.lru_tenants.proofs.Pops.{popped-last}
use Rattle.lru_tenants.proofs.pool.part.drop_oldest.Goals as goal

pub returns-in_err-_oldest : goal.returns-in_err-_oldest
returns-in_err-_oldest g c =
    let (gone, is) = pops-some g.L.Limiter.rules g.L.Summing.cost_of g.L.Summing.account c.args.own.now.1
    c.pop_oldest.new.self c.pop_oldest.result c.requires.tenant.sum (omega (arith, c.requires.above))
    c.pop_oldest.ensures.step in
    absurd (none-some gone (sym c.in_err-_oldest.was ∙ is))

pub returns-clause-tenant : goal.returns-clause-tenant
returns-clause-tenant g c =
    let old = c.args.own.now.1 in let new = c.pop_oldest.new.self in
    let step = pops_oldest c.pop_oldest.result c.pop_oldest.ensures.step in
    record {
      map = c.pop_oldest.ensures.map;
      sum = c.calls_keep_sums.ensures _ _ g.met.L.Summing.laws old new step c.requires.tenant.sum;
      within = c.calls_keep_the_budget.ensures.total old new step c.requires.tenant.sum c.requires.tenant.within;
      small = omega (arith, c.calls_keep_the_budget.ensures.budget old new step, c.requires.tenant.small);
    }

pub returns-clause-budget : goal.returns-clause-budget
returns-clause-budget g c = c.calls_keep_the_budget.ensures.budget c.args.own.now.1 c.pop_oldest.new.self
    (pops_oldest c.pop_oldest.result c.pop_oldest.ensures.step)

pub overflow_sub-result : goal.overflow_sub-result
overflow_sub-result g c =
    let old = c.args.own.now.1 in let new = c.pop_oldest.new.self in
    omega (
      arith,
      c.cost_of-before.ensures,
      c.cost_of-after.ensures,
      cost-falls g.L.Summing.cost_of g.L.Summing.account old new c.requires.tenant.sum
          (c.calls_keep_sums.ensures _ _ g.met.L.Summing.laws old new
          (pops_oldest c.pop_oldest.result c.pop_oldest.ensures.step) c.requires.tenant.sum)
          (front_trans new.pairs (front_same (ap (λ st. st.pairs) c.pop_oldest.ensures.step.state.is))
          (front_without_last old.pairs)),
    )

pub returns-clause-pops : goal.returns-clause-pops
returns-clause-pops g c =
    let old = c.args.own.now.1 in let new = c.pop_oldest.new.self in
    let (gone, is) = pops-some g.L.Limiter.rules g.L.Summing.cost_of g.L.Summing.account old
    new c.pop_oldest.result c.requires.tenant.sum (omega (arith, c.requires.above)) c.pop_oldest.ensures.step in
    (gone, new, subst (λ o. PopOldest g.L.Limiter.rules old o new) is c.pop_oldest.ensures.step, refl)

pub returns-clause-freed : goal.returns-clause-freed
returns-clause-freed g c =
    let old = c.args.own.now.1 in let new = c.pop_oldest.new.self in (
      c.cost_of-before.result - c.cost_of-after.result,
      refl,
      omega (
        arith,
        c.cost_of-before.ensures,
        c.cost_of-after.ensures,
        cost-falls g.L.Summing.cost_of g.L.Summing.account old new c.requires.tenant.sum
            (c.calls_keep_sums.ensures _ _ g.met.L.Summing.laws old new
            (pops_oldest c.pop_oldest.result c.pop_oldest.ensures.step) c.requires.tenant.sum)
            (front_trans new.pairs (front_same (ap (λ st. st.pairs) c.pop_oldest.ensures.step.state.is))
            (front_without_last old.pairs)),
      ),
    )

pub returns-clause-fewer : goal.returns-clause-fewer
returns-clause-fewer g c =
    let old = c.args.own.now.1 in let new = c.pop_oldest.new.self in
    let (gone, is) = pops-some g.L.Limiter.rules g.L.Summing.cost_of g.L.Summing.account old
    new c.pop_oldest.result c.requires.tenant.sum (omega (arith, c.requires.above)) c.pop_oldest.ensures.step in
    omega (
      arith,
      ap length (popped-last g.L.Limiter.rules g.met.L.Budgeted.laws.leaves old new gone
          (subst (λ o. PopOldest g.L.Limiter.rules old o new) is c.pop_oldest.ensures.step)),
      length-append new.pairs (gone ∷ []),
    )
