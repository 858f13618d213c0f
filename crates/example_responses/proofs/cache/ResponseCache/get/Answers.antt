use Rattle.std.proofs.Common.{None, Some, Ok, refl, ap, ◌∙◌}
use Rattle.lru_limits.specs.Texts.{names_text}
use Rattle.lru_tenants.specs.Lending.{read}
use Rattle.example_responses.proofs.LookUps.{copy-fresh, gets-copy}
use Rattle.example_responses.proofs.cache.ResponseCache.get.Goals as goal

pub returns-in-Some-clause-gets : goal.returns-in-Some-clause-gets
returns-in-Some-clause-gets c = gets-copy (names_text c.args.path.now) c.args.now (names_text c.args.host.now)
    c.args.self.now.entries c.drop_stale.new.entries _ (Some c.in-Some.response.now) (read c.get_counted.result)
    c.copy.result c.in_ok-drop_stale.ensures c.get_counted.follows.holds-at-none
    (ap read c.in_ok-response.was ∙ ap (λ lent. read (Ok lent)) c.in-Some.is) c.copy.ensures

pub returns-in-Some-clause-fresh : goal.returns-in-Some-clause-fresh
returns-in-Some-clause-fresh c = copy-fresh (names_text c.args.path.now) c.args.now (names_text c.args.host.now)
    c.args.self.now.entries c.get_counted.follows.lender-at-none c.copy.result (returns-in-Some-clause-gets c)

pub returns-in-None-clause-gets : goal.returns-in-None-clause-gets
returns-in-None-clause-gets c = gets-copy (names_text c.args.path.now) c.args.now (names_text c.args.host.now)
    c.args.self.now.entries c.drop_stale.new.entries _ None (read c.get_counted.result) (Ok None)
    c.in_ok-drop_stale.ensures c.get_counted.follows.holds-at-none
    (ap read c.in_ok-response.was ∙ ap (λ lent. read (Ok lent)) c.in-None.is) refl
