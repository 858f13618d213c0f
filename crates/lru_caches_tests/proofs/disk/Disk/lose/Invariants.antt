use Rattle.std.proofs.Common.{◌≡◌, ◌⊎◌, ℕ, slice_index}
use Rattle.lru_caches_tests.proofs.disk.Disk.lose.Given as goal

abbrev pub invariant-loop-n : goal.invariant-loop-n
invariant-loop-n l = record {
  same : l.self ≡ record l.fn.self { blocks = l.self.blocks };
  blocks : (k : ℕ) → (slice_index l.self.blocks k ≡ slice_index l.fn.self.blocks k)
      ⊎ (slice_index l.self.blocks k ≡ slice_index l.fn.self.synced k);
}
