use Rattle.std.proofs.Common.{◌≡◌, drop}
use Rattle.std.specs.List.{fold}
use Rattle.lru_trace.specs.Samples.{with_byte}
use Rattle.lru_trace.proofs.samples.hash.Given as goal

abbrev pub invariant-loop-byte : goal.invariant-loop-byte
invariant-loop-byte l = fold with_byte 14695981039346656037 l.key ≡ fold with_byte l.hash (drop l.byte-index l.key)
