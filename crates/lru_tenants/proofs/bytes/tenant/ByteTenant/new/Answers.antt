use Rattle.lru_tenants.proofs.bytes.tenant.ByteTenant.new.Goals as goal

pub returns-clause-keeps : goal.returns-clause-keeps
returns-clause-keeps g c = rw (c.with_limiter_and_hasher.ensures, c.new.ensures)
    (c.calls_keep_the_bytes.ensures.begins c.args.limit _ c.args.hasher)
