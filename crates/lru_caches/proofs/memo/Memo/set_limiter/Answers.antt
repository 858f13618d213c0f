use Rattle.std.proofs.Common.{sym, ap, subst}
use Rattle.std.specs.Fn.{FnReturnsAt}
use Rattle.lru_model.proofs.Theorems.Fronts.{front_trim}
use Rattle.lru_model.specs.Lists.{IsFront}
use Rattle.lru_model.specs.State.{contents}
use Rattle.lru_caches.proofs.StoredAnswers.{all_front}
use Rattle.lru_caches.specs.Answers.{IsAnswer, AreAnswers}
use Rattle.lru_caches.proofs.memo.Memo.set_limiter.Goals as goal

pub returns-clause-known : goal.returns-clause-known
returns-clause-known g c =
    let old = c.self.inside.map in let new = c.set_limiter.new.self in
    let known = subst (λ m. AreAnswers g.K.PartialEq.eq (FnReturnsAt g.F.Fn m.function) m.map.pairs) (sym c.self.view_is)
    c.requires.known in
    all_front (λ p. IsAnswer g.K.PartialEq.eq (FnReturnsAt g.F.Fn c.self.inside.function) p.0 p.1) new.pairs old.pairs
    (subst (λ pairs. IsFront pairs old.pairs) (sym (ap (λ st. st.pairs) c.set_limiter.ensures.step.is))
    (front_trim g.L.Limiter.rules (contents (record old { limiter = c.args.limiter })))) known
