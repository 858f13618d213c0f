use Rattle.std.proofs.Common.{◌≡◌, [], None, drop}
use Rattle.lru_trace.specs.Sizes.{sizes_from}
use Rattle.lru_trace.proofs.sizes.sizes_of.Given as goal

abbrev pub invariant-loop-byte : goal.invariant-loop-byte
invariant-loop-byte l = sizes_from [] None l.line ≡ sizes_from l.sizes.items l.begun (drop l.byte-index l.line)
