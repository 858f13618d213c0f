use Rattle.std.proofs.Common.{rules, not}
use Rattle.lru_limits.specs.Texts.{names_text}
use Rattle.example_responses.specs.Purges.{is_below}
use Rattle.example_responses.proofs.Purges.{retains-filter}
use Rattle.example_responses.proofs.cache.ResponseCache.purge_below.Goals as goal

pub returns : goal.returns
returns c = retains-filter _ _ (λ path. not (is_below c.args.prefix.now path)) _
    (λ key value answer g called. search rules) (names_text c.args.host.now) _ _ _ c.retain.ensures.retains
