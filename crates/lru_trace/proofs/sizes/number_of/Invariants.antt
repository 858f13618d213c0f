use Rattle.std.proofs.Common.{◌≡◌, None, drop}
use Rattle.lru_trace.specs.Sizes.{number_from}
use Rattle.lru_trace.proofs.sizes.number_of.Given as goal

abbrev pub invariant-loop-byte : goal.invariant-loop-byte
invariant-loop-byte l = number_from None l.text ≡ number_from l.number (drop l.byte-index l.text)
