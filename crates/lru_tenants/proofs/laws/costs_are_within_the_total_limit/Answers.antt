use Rattle.std.proofs.Common.{arith}
use Rattle.std.specs.Map.{values_of}
use Rattle.lru_tenants.proofs.Kept.{within-less}
use Rattle.lru_tenants.proofs.TotalCosts.{costs-within}
use Rattle.lru_tenants.proofs.laws.costs_are_within_the_total_limit.Goals as goal

pub returns : goal.returns
returns g c = within-less c.args.cache.now.total_limit c.total_budget-sum.result _ c.total_budget-sum.ensures.limit
    (omega (
      arith,
      c.total_budget-sum.ensures.total,
      costs-within (values_of c.args.cache.now.tenants)
          c.len-len.ensures.tenants,
    ))
