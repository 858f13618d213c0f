use Rattle.std.proofs.Common.{sym, subst, ◌∙◌}
use Rattle.std.specs.Fn.{FnReturnsAt}
use Rattle.lru_caches.specs.Answers.{AreAnswers}
use Rattle.lru_caches.proofs.StoredAnswers.{removed_there, removed_known}
use Rattle.lru_caches.proofs.memo.Memo.remove.Goals as goal

pub returns-clause-there : goal.returns-clause-there
returns-clause-there g c = rw (← c.self.view_is) (c.is_some.ensures ∙ removed_there g.L.Limiter.rules
    (g.Q.LookupKey.names c.args.key.now) c.self.inside.map c.remove.result c.remove.new.self c.remove.ensures.step)

pub returns-clause-known : goal.returns-clause-known
returns-clause-known g c = removed_known g.L.Limiter.rules g.K.PartialEq.eq (FnReturnsAt g.F.Fn c.self.inside.function) (g.Q.LookupKey.names c.args.key.now)
    c.self.inside.map c.remove.result c.remove.new.self
    (subst (λ m. AreAnswers g.K.PartialEq.eq (FnReturnsAt g.F.Fn m.function) m.map.pairs) (sym c.self.view_is) c.requires.known)
    c.remove.ensures.step
