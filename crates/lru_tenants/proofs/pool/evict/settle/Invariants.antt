use Rattle.std.proofs.Common.{◌≡◌, length, sum_by}
use Rattle.std.specs.List.{All}
use Rattle.std.specs.Map.{values_of}
use Rattle.lru_tenants.specs.Pool.{Evictions, IsPart, total_cost, total_share}
use Rattle.lru_tenants.proofs.pool.evict.settle.Given as goal

abbrev pub invariant-evictions : goal.invariant-evictions
invariant-evictions g l = record {
  run : (new : _) → Evictions g.L.Limiter.rules g.L.Summing.account g.N.PartialEq.eq l.fn.limit new l.tenants.pairs
      → Evictions g.L.Limiter.rules g.L.Summing.account g.N.PartialEq.eq l.fn.limit new l.fn.tenants.pairs;
  each : All (IsPart g.L.Summing.account g.K.PartialEq.eq g.L.Summing.cost_of g.L.Budgeted.budget_of l.fn.limit)
      (values_of l.tenants.pairs);
  shares : total_share l.tenants.pairs ≡ total_share l.fn.tenants.pairs;
  total : l.total ≡ total_cost g.L.Summing.account l.tenants.pairs;
}

abbrev pub decreases-evictions : goal.decreases-evictions
decreases-evictions g l = sum_by (λ own. length own.1.pairs) (values_of l.tenants.pairs)
