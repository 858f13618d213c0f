use Rattle.std.proofs.Common.{sym, ◌∙◌}
use Rattle.lru_limits.specs.Texts.{names_text}
use Rattle.lru_model.specs.Lists.{lookup}
use Rattle.example_responses.proofs.Others.{others-counted}
use Rattle.example_responses.proofs.cache.ResponseCache.others.Goals as goal

pub returns-in-Ok-Ok : goal.returns-in-Ok-Ok
returns-in-Ok-Ok c = c.saturating_sub.ensures ∙ others-counted (names_text c.args.path.now)
    (lookup (names_text c.args.host.now) c.args.self.now.entries.tenants) c.in-Ok-Ok.entries c.in-Ok-Ok.there
    (sym c.entries.ensures ∙ c.in-Ok-Ok.is-0) (sym c.contains.ensures ∙ c.in-Ok-Ok.is-1)
