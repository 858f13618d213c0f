use Rattle.std.proofs.Common.{arith}
use Rattle.lru_model.specs.Runs.Step.{retains}
use Rattle.lru_tenants.proofs.tenant.retain.Goals as goal

pub returns-clause-tenant : goal.returns-clause-tenant
returns-clause-tenant g c =
    let old = c.args.map.now in let new = c.retain.new.self in let done = c.retain.ensures.step in
    let step = retains done.asked done.each done.state in
    record {
      map = c.retain.ensures.map;
      sum = c.calls_keep_sums.ensures _ _ g.met.L.Summing.laws old new step c.requires.tenant.sum;
      within = c.calls_keep_the_budget.ensures.total old new step c.requires.tenant.sum c.requires.tenant.within;
      small = omega (arith, c.calls_keep_the_budget.ensures.budget old new step, c.requires.tenant.small);
    }

pub returns-clause-budget : goal.returns-clause-budget
returns-clause-budget g c = let done = c.retain.ensures.step in
    c.calls_keep_the_budget.ensures.budget c.args.map.now c.retain.new.self
    (retains done.asked done.each done.state)
