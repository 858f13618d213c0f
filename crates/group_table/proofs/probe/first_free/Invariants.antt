use Rattle.std.proofs.Common.{ℕ, ◌+◌, ◌-◌, ◌<◌, IsTrue}
use Rattle.group_table.specs.Probe.{probed}
use Rattle.group_table.specs.Control.{buckets_of}
use Rattle.group_table.specs.Group.{IsProbe, passed_by, full_at}
use Rattle.group_table.proofs.probe.first_free.Given as goal

abbrev pub invariant-groups : goal.invariant-groups
invariant-groups l = record {
  at : IsProbe (buckets_of l.control) l.hash l.probe;
  within : passed_by l.probe < buckets_of l.control;
  full : (before : ℕ) → before < passed_by l.probe + 16
      → IsTrue (full_at l.control (probed (buckets_of l.control) l.hash before));
}

abbrev pub decreases-groups : goal.decreases-groups
decreases-groups l = buckets_of l.control - passed_by l.probe
