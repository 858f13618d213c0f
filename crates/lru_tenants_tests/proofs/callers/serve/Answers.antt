use Rattle.lru_limits.specs.Texts.{names_text}
use Rattle.lru_tenants_tests.proofs.callers.serve.Goals as goal

pub loop-path-preserved : goal.loop-path-preserved
loop-path-preserved c =
    let law = c.calls_spare_other_tenants.ensures in let names = names_text c.args.host.now in
    let was = c.loop-path.pool in let mid = c.get.follows.lender-at-none in let got = c.get.follows.holds-at-none in
    law.joins names c.args.pool.now was c.put.new.self c.loop-path.invariant
    (law.joins names was mid c.put.new.self (law.leaves names was mid got.1.1.others) c.put.ensures.spares)

pub returns-in_err-put : goal.returns-in_err-put
returns-in_err-put c =
    let law = c.calls_spare_other_tenants.ensures in let names = names_text c.args.host.now in
    let was = c.loop-path.pool in let mid = c.get.follows.lender-at-none in let got = c.get.follows.holds-at-none in
    law.joins names c.args.pool.now was c.put.new.self c.loop-path.invariant
    (law.joins names was mid c.put.new.self (law.leaves names was mid got.1.1.others) c.put.ensures.spares)
