use Rattle.std.proofs.Common.{◌+◌, ◌-◌, ◌<◌, length}
use Rattle.group_table.specs.Control.{buckets_of}
use Rattle.group_table.specs.Group.{IsProbe, passed_by}
use Rattle.group_table.specs.Layout.{slots_of}
use Rattle.group_table.proofs.FindLemmas.{GoesPast}
use Rattle.group_table.proofs.probe.find_bucket.Given as goal

abbrev pub invariant-groups : goal.invariant-groups
invariant-groups g l = record {
  callable : goal.F-IsAlwaysCallable g l.f;
  at : IsProbe (buckets_of l.control) l.hash l.probe;
  within : passed_by l.probe + 16 < length l.entries;
  past : GoesPast g.F.FnMut (slots_of l.control l.entries) l.hash (passed_by l.probe + 16) l.fn.f l.f;
}

abbrev pub decreases-groups : goal.decreases-groups
decreases-groups g l = length l.entries - passed_by l.probe
