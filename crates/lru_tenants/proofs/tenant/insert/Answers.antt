use Rattle.std.proofs.Common.{arith}
use Rattle.lru_model.specs.Runs.Step.{inserts}
use Rattle.lru_tenants.proofs.tenant.insert.Goals as goal

pub returns-clause-budget : goal.returns-clause-budget
returns-clause-budget g c =
    let step = inserts c.args.key c.args.value c.insert_with.result c.insert_with.ensures.step in
    c.calls_keep_the_budget.ensures.budget c.args.map.now c.insert_with.new.self step

pub returns-clause-tenant : goal.returns-clause-tenant
returns-clause-tenant g c =
    let old = c.args.map.now in let new = c.insert_with.new.self in
    let step = inserts c.args.key c.args.value c.insert_with.result c.insert_with.ensures.step in
    record {
      map = c.insert_with.ensures.map;
      sum = c.calls_keep_sums.ensures _ _ g.met.L.Summing.laws old new step c.requires.tenant.sum;
      within = c.calls_keep_the_budget.ensures.total old new step c.requires.tenant.sum c.requires.tenant.within;
      small = omega (arith, c.calls_keep_the_budget.ensures.budget old new step, c.requires.tenant.small);
    }
