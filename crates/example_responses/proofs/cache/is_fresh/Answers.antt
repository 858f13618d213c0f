use Rattle.std.proofs.Common.{Some, None, Ok, sym, ap, ◌∙◌}
use Rattle.lru_limits.specs.Texts.{names_text}
use Rattle.lru_model.specs.Lists.{lookup}
use Rattle.lru_tenants.specs.Lending.{read}
use Rattle.example_responses.proofs.LookUps.{fresh-said, fresh-flag}
use Rattle.example_responses.proofs.cache.is_fresh.Goals as goal

pub returns-in-Some : goal.returns-in-Some
returns-in-Some c = ap Ok (fresh-flag c.args.now c.in-Some.response.now)
    ∙ fresh-said (names_text c.args.path.now) c.args.now
    (lookup (names_text c.args.host.now) c.args.entries.now.tenants) (Some c.in-Some.response.now)
    (sym (ap read c.in_ok-response.was ∙ ap (λ lent. read (Ok lent)) c.in-Some.is) ∙ c.peek.ensures)

pub returns-in-None : goal.returns-in-None
returns-in-None c = fresh-said (names_text c.args.path.now) c.args.now
    (lookup (names_text c.args.host.now) c.args.entries.now.tenants) None
    (sym (ap read c.in_ok-response.was ∙ ap (λ lent. read (Ok lent)) c.in-None.is) ∙ c.peek.ensures)
