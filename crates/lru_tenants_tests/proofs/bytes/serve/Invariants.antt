use Rattle.std.proofs.Common.{◌≡◌}
use Rattle.lru_tenants_tests.proofs.bytes.serve.Given as goal

abbrev pub invariant-loop-path : goal.invariant-loop-path
invariant-loop-path l = l.pages.limit ≡ l.fn.pages.limit
