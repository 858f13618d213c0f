use Rattle.std.proofs.Common.{◌≡◌, arith, sym, ap, ◌∙◌}
use Rattle.std.specs.Prelude.{unwrap_or}
use Rattle.lru_tenants.specs.Pool.{ends, evicts}
use Rattle.lru_tenants.proofs.pool.evict.settle.Goals as goal

pub evictions-preserved : goal.evictions-preserved
evictions-preserved g c =
    let h = c.evictions.invariant in
    let (freed, is, less) = c.evict.ensures.freed in
    let same : c.in-Some.freed ≡ freed = ap (λ o. unwrap_or o freed) (sym c.in-Some.is ∙ is) in
    record {
      run = λ new more. h.run new
          (evicts c.evict.new.tenants.pairs (omega (arith, h.total, c.evictions-test.true)) c.evict.ensures.evicts more);
      each = c.evict.ensures.each c.args.limit h.each;
      shares = c.evict.ensures.shares ∙ h.shares;
      total = omega (arith, h.total, less, same);
    }

pub returns-clause-evictions : goal.returns-clause-evictions
returns-clause-evictions g c = let h = c.evictions.invariant in
    h.run c.evictions.tenants.pairs (ends (omega (arith, h.total, c.evictions-test.false)))
