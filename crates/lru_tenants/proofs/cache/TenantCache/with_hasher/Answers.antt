use Rattle.std.proofs.Common.{refl, ap}
use Rattle.std.proofs.lemmas.List.Elements.{All-nil}
use Rattle.lru_tenants.proofs.cache.TenantCache.with_hasher.Goals as goal

pub invariant_of-result : goal.invariant_of-result
invariant_of-result g c = rw (ap (λ st. st.pairs) c.with_limiter_and_hasher.ensures) (record {
  each = All-nil _;
  sum = refl;
  within = refl;
})
