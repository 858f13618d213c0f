use Rattle.lru_tenants.proofs.PoolPuts.{run-spares, same-spares, spares-trans}
use Rattle.lru_tenants.proofs.laws.calls_spare_other_tenants.Goals as goal

pub returns : goal.returns
returns g c = record {
  others = run-spares g.L.Summing.account g.N.PartialEq.eq;
  leaves = same-spares g.L.Summing.account g.N.PartialEq.eq;
  joins = spares-trans g.L.Summing.account g.N.PartialEq.eq;
}
