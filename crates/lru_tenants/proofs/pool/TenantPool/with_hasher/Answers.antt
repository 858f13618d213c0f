use Rattle.std.proofs.Common.{refl, ap, arith}
use Rattle.std.proofs.lemmas.List.Elements.{All-nil}
use Rattle.lru_tenants.proofs.pool.TenantPool.with_hasher.Goals as goal

pub invariant_of-result : goal.invariant_of-result
invariant_of-result g c = rw (ap (λ st. st.pairs) c.with_limiter_and_hasher.ensures) (record {
  each = All-nil _;
  share = refl;
  enough = omega arith;
  cost = refl;
  within = omega arith;
})
