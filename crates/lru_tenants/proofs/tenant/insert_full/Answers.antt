use Rattle.std.proofs.Common.{arith, [], refl, sym, ◌∙◌}
use Rattle.lru_model.specs.Inserts.{not_admitted}
use Rattle.lru_model.specs.Runs.Step.{inserts}
use Rattle.lru_tenants.proofs.PutFulls.{is-rejected}
use Rattle.lru_tenants.proofs.tenant.insert_full.Goals as goal

-- a rejected entry of a new key does not change the map
pub returns-then-rejects-clause-inserts : goal.returns-then-rejects-clause-inserts
returns-then-rejects-clause-inserts g c =
    let map = c.args.map.now in
    let (refused, new) = is-rejected g.L.Admission.terms g.K.PartialEq.eq c.args.key c.args.value map
    (sym c.rejects.ensures ∙ c.if-rejects.true) in
    let limiter = sym (g.met.L.Budgeted.laws.refuses map.limiter _ c.args.key c.args.value refused) in
    not_admitted new map.limiter (record { limiter = limiter; pair = rw refused refl }) refl refl

pub returns-then-rejects-clause-passed : goal.returns-then-rejects-clause-passed
returns-then-rejects-clause-passed g c =
    let map = c.args.map.now in
    let (refused, new) = is-rejected g.L.Admission.terms g.K.PartialEq.eq c.args.key c.args.value map
    (sym c.rejects.ensures ∙ c.if-rejects.true) in
    let limiter = sym (g.met.L.Budgeted.laws.refuses map.limiter _ c.args.key c.args.value refused) in (
      [],
      refl,
      not_admitted new (map.limiter, []) (record { limiter = limiter; pair = rw refused refl }, refl) refl refl,
    )

pub returns-clause-budget : goal.returns-clause-budget
returns-clause-budget g c =
    let step = inserts c.args.key c.args.value _ c.insert_full.ensures.step in
    c.calls_keep_the_budget.ensures.budget c.args.map.now c.insert_full.new.self step

pub returns-clause-tenant : goal.returns-clause-tenant
returns-clause-tenant g c =
    let old = c.args.map.now in let new = c.insert_full.new.self in
    let step = inserts c.args.key c.args.value _ c.insert_full.ensures.step in
    record {
      map = c.insert_full.ensures.map;
      sum = c.calls_keep_sums.ensures _ _ g.met.L.Summing.laws old new step c.requires.tenant.sum;
      within = c.calls_keep_the_budget.ensures.total old new step c.requires.tenant.sum c.requires.tenant.within;
      small = omega (arith, c.calls_keep_the_budget.ensures.budget old new step, c.requires.tenant.small);
    }
