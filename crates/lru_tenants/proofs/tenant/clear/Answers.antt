use Rattle.std.proofs.Common.{arith}
use Rattle.lru_model.specs.Runs.Step.{clears}
use Rattle.lru_tenants.proofs.tenant.clear.Goals as goal

pub returns-clause-tenant : goal.returns-clause-tenant
returns-clause-tenant g c =
    let old = c.args.map.now in let new = c.clear.new.self in let step = clears c.clear.ensures.step in
    record {
      map = c.len-len.ensures.map;
      sum = c.calls_keep_sums.ensures _ _ g.met.L.Summing.laws old new step c.requires.sum;
      within = c.calls_keep_the_budget.ensures.total old new step c.requires.sum c.requires.within;
      small = omega (arith, c.calls_keep_the_budget.ensures.budget old new step, c.requires.small);
    }

pub returns-clause-budget : goal.returns-clause-budget
returns-clause-budget g c =
    c.calls_keep_the_budget.ensures.budget c.args.map.now c.clear.new.self (clears c.clear.ensures.step)
