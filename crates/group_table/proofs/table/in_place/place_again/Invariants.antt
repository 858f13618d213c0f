use Rattle.std.proofs.Common.{◌≡◌, ℕ, ◌+◌, Some}
use Rattle.group_table.specs.Moves.{place_at}
use Rattle.group_table.specs.Relocation.{GivesHashes}
use Rattle.group_table.proofs.InPlace.{IsHalfway, IsInTurn, StaysWhereFree}
use Rattle.group_table.proofs.FreeBytes.{free_bytes}
use Rattle.group_table.proofs.table.in_place.place_again.Given as goal

abbrev pub invariant-loop-b : goal.invariant-loop-b
invariant-loop-b g l = record {
  half : IsHalfway g.N.LinkType.number g.N.LinkType.MAX
      (GivesHashes g.H.Fn l.hash_of (place_at l.fn.entries)) l.fn.entries l.entries l.control
      l.links.items l.b;
  stays : StaysWhereFree l.fn.entries l.entries l.control l.b;
}

abbrev pub invariant-turns : goal.invariant-turns
invariant-turns g l = record {
  turn : IsInTurn g.N.LinkType.number g.N.LinkType.MAX
      (GivesHashes g.H.Fn l.hash_of (place_at l.fn.entries)) l.fn.entries l.entries l.control l.links.items
      (l.b + 1) l.old l.next;
  hashed : (entry : _) → l.next ≡ Some entry → (hash_at : ℕ → ℕ)
      → GivesHashes g.H.Fn l.hash_of (place_at l.fn.entries) hash_at → l.hash ≡ hash_at l.old;
  stays : StaysWhereFree l.fn.entries l.entries l.control (l.b + 1);
}

abbrev pub decreases-turns : goal.decreases-turns
decreases-turns g l = free_bytes l.control
