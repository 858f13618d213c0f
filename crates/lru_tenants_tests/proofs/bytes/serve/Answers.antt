use Rattle.std.proofs.Common.{ap, ◌∙◌}
use Rattle.lru_tenants_tests.proofs.bytes.serve.Goals as goal

pub returns-in_err-get : goal.returns-in_err-get
returns-in_err-get c = ap (λ p. p.limit) c.get.follows.holds-at-none.0 ∙ c.loop-path.invariant

pub loop-path-preserved-then-is_some : goal.loop-path-preserved-then-is_some
loop-path-preserved-then-is_some c = ap (λ p. p.limit) c.get.follows.holds-at-none.0 ∙ c.loop-path.invariant

pub returns-in_err-page : goal.returns-in_err-page
returns-in_err-page c = ap (λ p. p.limit) c.get.follows.holds-at-none.0 ∙ c.loop-path.invariant

pub loop-path-preserved : goal.loop-path-preserved
loop-path-preserved c = ap (λ p. p.limit) c.put.ensures.puts.0
    ∙ ap (λ p. p.limit) c.get.follows.holds-at-none.0 ∙ c.loop-path.invariant

pub returns-in_err-put : goal.returns-in_err-put
returns-in_err-put c = ap (λ p. p.limit) c.put.ensures.puts.0
    ∙ ap (λ p. p.limit) c.get.follows.holds-at-none.0 ∙ c.loop-path.invariant
