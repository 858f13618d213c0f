use Rattle.lru_tenants_tests.proofs.callers.put_beside.Goals as goal

pub returns : goal.returns
returns c = c.put.ensures.puts.1.1.others
