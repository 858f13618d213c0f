use Rattle.std.proofs.Common.{◌≡◌, ◌≤◌, replicate, vec_len, vec_capacity}
use Rattle.group_table.proofs.fields.no_links.Given as goal

abbrev pub invariant-loop : goal.invariant-loop
invariant-loop g l = record {
  items : l.links.items ≡ replicate l.counter g.N.LinkType.MAX;
  len : vec_len l.links ≡ l.counter;
  capacity : l.count ≤ vec_capacity l.links;
}
