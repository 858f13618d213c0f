use Rattle.std.proofs.Common.{◌≡◌, ℕ, ◌<◌, ◌≤◌, length, get_or, take, count_by, is_some, None}
use Rattle.group_table.specs.Bucket.{is_deleted, entry_count}
use Rattle.group_table.specs.Moves.{place_at}
use Rattle.group_table.specs.Relocation.{Moves, KeepsHashes, GivesHashes}
use Rattle.group_table.proofs.table.moves.move_entries.Given as goal

abbrev pub invariant-loop-b : goal.invariant-loop-b
invariant-loop-b g l = record {
  old_length : length l.old ≡ length l.initial.old;
  freed : (k : ℕ) → k < l.b → get_or l.old k None ≡ None;
  rest : (k : ℕ) → l.b ≤ k → get_or l.old k None ≡ get_or l.initial.old k None;
  same : length l.links.items ≡ length l.initial.links.items;
  buckets : length l.fresh.slots ≡ length l.initial.fresh.slots;
  insertions : l.fresh.insertions ≡ l.initial.fresh.insertions;
  none_deleted : count_by is_deleted l.fresh.slots ≡ 0;
  entries : entry_count l.fresh.slots ≡ count_by is_some (take l.b l.initial.old);
  moves : Moves g.N.LinkType.number g.N.LinkType.MAX (place_at (take l.b l.initial.old)) l.fresh.slots l.links.items;
  hashes : (hash_at : ℕ → ℕ) → GivesHashes g.H.Fn l.hash_of (place_at l.initial.old) hash_at
      → KeepsHashes g.N.LinkType.number g.N.LinkType.MAX (place_at (take l.b l.initial.old)) l.fresh.slots
      l.links.items hash_at;
}
