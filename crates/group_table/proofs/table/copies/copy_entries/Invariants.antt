use Rattle.std.proofs.Common.{◌≡◌, ℕ, ◌+◌, ◌-◌, ◌<◌, ◌≤◌, length, get_or, None, slice_index}
use Rattle.group_table.specs.Bytes.{IsTag}
use Rattle.group_table.specs.FullBuckets.{IsAhead}
use Rattle.group_table.specs.Copies.{IsPlaceCopy}
use Rattle.group_table.proofs.table.copies.copy_entries.Given as goal

abbrev pub invariant-entries : goal.invariant-entries
invariant-entries g l = record {
  same : length l.copies ≡ length l.entries;
  within : l.b ≤ length l.entries;
  full : l.b < length l.entries → IsTag (slice_index l.control l.b);
  copied : (k : ℕ) → k < l.b → IsPlaceCopy g.F.Fn l.f (get_or l.entries k None) (get_or l.copies k None);
  ahead : l.b < length l.entries → IsAhead l.control l.walk (l.b + 1);
  others : (k : ℕ) → l.b ≤ k → get_or l.copies k None ≡ None;
}

abbrev pub decreases-entries : goal.decreases-entries
decreases-entries g l = length l.entries - l.b
