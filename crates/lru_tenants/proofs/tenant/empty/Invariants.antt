use Rattle.std.proofs.Common.{◌≡◌, ◌++◌, List, length, reverse}
use denote.Param.Always.{always_mut}
use Rattle.lru_model.specs.Callbacks.{CalledWith}
use Rattle.lru_tenants.proofs.tenant.empty.Given as goal

abbrev pub invariant-pops : goal.invariant-pops
invariant-pops g l = record {
  callable : always_mut g.F.FnMut l.sink;
  passed : (passed : List (g.row.K.Denot × g.row.V.Denot)) × CalledWith g.F.FnMut l.fn.sink passed l.sink
      × (passed ++ reverse l.map.pairs ≡ reverse l.fn.map.pairs);
}

abbrev pub decreases-pops : goal.decreases-pops
decreases-pops g l = length l.map.pairs
