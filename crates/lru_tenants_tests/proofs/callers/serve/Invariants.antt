use Rattle.std.specs.Prelude.{string_eq}
use Rattle.lru_limits.specs.Texts.{names_text}
use Rattle.lru_tenants.specs.Pool.{SparesOthers}
use Rattle.lru_tenants_tests.proofs.callers.serve.Given as goal

abbrev pub invariant-loop-path : goal.invariant-loop-path
invariant-loop-path l = SparesOthers (λ limiter. limiter.cost) string_eq (names_text l.fn.host) l.fn.pool l.pool
