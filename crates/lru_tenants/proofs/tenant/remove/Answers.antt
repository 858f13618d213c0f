use Rattle.std.proofs.Common.{arith}
use Rattle.lru_model.specs.Runs.Step.{removes}
use Rattle.lru_tenants.proofs.tenant.remove.Goals as goal

pub returns-clause-tenant : goal.returns-clause-tenant
returns-clause-tenant g c =
    let old = c.args.map.now in let new = c.remove-value.new.self in
    let step = removes (g.Q.LookupKey.names c.args.key.now) c.remove-value.result c.remove-value.ensures.step in
    record {
      map = c.len-len.ensures.map;
      sum = c.calls_keep_sums.ensures _ _ g.met.L.Summing.laws old new step c.requires.sum;
      within = c.calls_keep_the_budget.ensures.total old new step c.requires.sum c.requires.within;
      small = omega (arith, c.calls_keep_the_budget.ensures.budget old new step, c.requires.small);
    }

pub returns-clause-budget : goal.returns-clause-budget
returns-clause-budget g c =
    let step = removes (g.Q.LookupKey.names c.args.key.now) c.remove-value.result c.remove-value.ensures.step in
    c.calls_keep_the_budget.ensures.budget c.args.map.now c.remove-value.new.self step
