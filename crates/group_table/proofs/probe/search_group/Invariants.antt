use Rattle.group_table.proofs.LaneLemmas.{AsksLanes}
use Rattle.group_table.proofs.probe.search_group.Given as goal

abbrev pub invariant-lanes : goal.invariant-lanes
invariant-lanes g l = record {
  callable : goal.F-IsAlwaysCallable g l.f;
  asked : AsksLanes g.F.FnMut l.control l.entries l.tag l.start l.initial.f l.mask l.f;
}

abbrev pub decreases-lanes : goal.decreases-lanes
decreases-lanes g l = l.mask
