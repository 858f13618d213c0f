use Rattle.std.proofs.Common.{sym, ap, ◌∙◌, subst}
use Rattle.lru_tenants.proofs.PoolEvict.{IsScan, scan-begins, scan-higher, scan-lower, scan-ends}
use Rattle.lru_tenants.proofs.pool.evict.furthest.Goals as goal

pub loop-name-init : goal.loop-name-init
loop-name-init g c = let map = c.args.tenants.now in
    subst (λ rest. IsScan g.L.Summing.account (g.H.KeyHasher.hash_of map.hasher) map.pairs rest 0 0)
    (sym (c.into_iter-name-iterator.ensures.into_iter_gives ∙ c.iter-name-items.ensures.rest))
    (scan-begins g.L.Summing.account (g.H.KeyHasher.hash_of map.hasher) map.pairs 0)

pub loop-name-preserved-then-above-most : goal.loop-name-preserved-then-above-most
loop-name-preserved-then-above-most g c =
    let map = c.args.tenants.now in let name = c.in-Some.name.now in
    let hash_of = g.H.KeyHasher.hash_of in
    scan-higher g.L.Summing.account (hash_of map.hasher) map.pairs name c.in-Some.own.now c.next.new.self
    c.loop-name.most c.loop-name.hash c.excess-above.result
    (subst (λ rest. IsScan g.L.Summing.account (hash_of map.hasher) map.pairs rest c.loop-name.most c.loop-name.hash)
    c.in-Some.ensures.steps c.loop-name.invariant)
    c.excess-above.ensures c.if-above-most.true c.hash_named-hash.result
    (c.hash_named-hash.ensures name (g.met.N.Eq.laws.refl name) ∙ ap (λ h. hash_of h name) c.hasher.ensures)

pub loop-name-preserved : goal.loop-name-preserved
loop-name-preserved g c =
    let map = c.args.tenants.now in let hash_of = g.H.KeyHasher.hash_of in
    scan-lower g.L.Summing.account (hash_of map.hasher) map.pairs c.in-Some.name.now c.in-Some.own.now c.next.new.self
    c.loop-name.most c.loop-name.hash c.excess-above.result
    (subst (λ rest. IsScan g.L.Summing.account (hash_of map.hasher) map.pairs rest c.loop-name.most c.loop-name.hash)
    c.in-Some.ensures.steps c.loop-name.invariant)
    c.excess-above.ensures c.if-above-most.false

pub returns-clause-most : goal.returns-clause-most
returns-clause-most g c =
    let map = c.args.tenants.now in let hash_of = g.H.KeyHasher.hash_of in
    scan-ends g.L.Summing.account (hash_of map.hasher) map.pairs c.loop-name.most c.loop-name.hash
    (subst (λ rest. IsScan g.L.Summing.account (hash_of map.hasher) map.pairs rest c.loop-name.most c.loop-name.hash)
    c.in-None.ensures.steps.0 c.loop-name.invariant)

pub returns-clause-there : goal.returns-clause-there
returns-clause-there g c = c.loop-name.invariant.there
