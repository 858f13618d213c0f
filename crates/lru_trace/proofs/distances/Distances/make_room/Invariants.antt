use Rattle.std.proofs.Common.{◌≡◌, ◌+◌, ◌*◌, length, take}
use Rattle.lru_trace.specs.Slots.{newest, live}
use Rattle.lru_trace.proofs.distances.Distances.make_room.Given as goal

abbrev pub invariant-loop-key : goal.invariant-loop-key
invariant-loop-key l = let keys = take l.key-index (live l.key-items) in
    (l.self.recency ≡ newest keys)
    × (l.self.keys ≡ l.fn.self.keys)
    × (l.self.weights ≡ l.fn.self.weights)
    × (l.self.room + length (newest keys) ≡ 16 * l.blocks)
