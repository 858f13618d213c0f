use Rattle.std.proofs.Common.{arith}
use Rattle.lru_model.proofs.EveryCall.{makes_step}
use Rattle.lru_tenants.proofs.tenant.get_or_insert.Goals as goal

pub returns-clause-budget : goal.returns-clause-budget
returns-clause-budget g c =
    let old = c.args.map.now in let new = c.ensure_newest.new.self in
    c.calls_keep_the_budget.ensures.budget old new (makes_step c.ensure_newest.ensures.step)

pub returns-clause-tenant : goal.returns-clause-tenant
returns-clause-tenant g c =
    let old = c.args.map.now in let new = c.ensure_newest.new.self in
    let step = makes_step c.ensure_newest.ensures.step in
    record {
      map = c.ensure_newest.ensures.map;
      sum = c.calls_keep_sums.ensures _ _ g.met.L.Summing.laws old new step c.requires.tenant.sum;
      within = c.calls_keep_the_budget.ensures.total old new step c.requires.tenant.sum c.requires.tenant.within;
      small = omega (arith, c.calls_keep_the_budget.ensures.budget old new step, c.requires.tenant.small);
    }
