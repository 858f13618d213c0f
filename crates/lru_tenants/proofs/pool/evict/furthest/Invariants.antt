use Rattle.lru_tenants.proofs.PoolEvict.{IsScan}
use Rattle.lru_tenants.proofs.pool.evict.furthest.Given as goal

abbrev pub invariant-loop-name : goal.invariant-loop-name
invariant-loop-name g l = IsScan g.L.Summing.account (g.H.KeyHasher.hash_of l.fn.tenants.hasher) l.fn.tenants.pairs
    l.name-iterator l.most l.hash
