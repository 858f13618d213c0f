use Rattle.std.proofs.Common.{◌≡◌, ◌≤◌, ◌*◌, ◌^◌, length, sum_by}
use Rattle.lru_tenants.proofs.cache.TenantCache.total_cost.Given as goal

abbrev pub invariant-loop-map : goal.invariant-loop-map
invariant-loop-map g l = record {
  total : l.sum ≡ sum_by (λ map. g.L.Summing.account map.now.limiter) l.yielded;
  bound : l.sum ≤ length l.yielded * 2 ^ 64;
}
