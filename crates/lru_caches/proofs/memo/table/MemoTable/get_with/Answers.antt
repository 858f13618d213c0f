use Rattle.std.proofs.Common.{◌≡◌, Option, Some, None, refl, sym, ap, subst}
use Rattle.std.specs.Fn.{FnOnceReturnsAt}
use Rattle.std.specs.Prelude.{IfSome, MatchOption}
use Rattle.lru_model.proofs.CallerLemmas.{read-all, read_back, promoted-absent}
use Rattle.lru_caches.specs.Answers.{IsAnswer}
use Rattle.lru_caches.proofs.StoredAnswers.{found_answer}
use Rattle.lru_caches.proofs.memo.table.MemoTable.get_with.Goals as goal

pub invariant_of-self-2 : goal.invariant_of-self-2
invariant_of-self-2 g c =
    let eq = g.K.PartialEq.eq in
    let (keeps, known) = c.self.invariant in (
      keeps,
      read-all (eq c.args.key.now) c.self.inside.map (λ p. IsAnswer eq g.Q.Question.answers p.0 p.1)
          c.in_ok-value.value.now (sym c.in_ok-value.ensures.value) known,
    )

pub returns-clause-answer : goal.returns-clause-answer
returns-clause-answer g c =
    let eq = g.K.PartialEq.eq in
    rw (← c.self.view_is) (subst (λ there. IfSome there (IsAnswer eq g.Q.Question.answers c.args.key.now))
    c.in_ok-value.ensures.value (found_answer eq g.met.K.Eq.laws g.Q.Question.answers c.args.key.now
    c.self.inside.map.pairs c.in_ok-value.value.now c.self.invariant.1 (sym c.in_ok-value.ensures.value)))

pub returns-clause-stored : goal.returns-clause-stored
returns-clause-stored g c =
    let result : Option g.row.R.Denot = Some c.read.result in
    rw (← c.self.view_is) (subst (λ there. MatchOption there (result ≡ None) (λ value. (given : g.row.R.Denot)
    × (result ≡ Some given) × FnOnceReturnsAt g.U.FnOnce c.args.read value given))
    c.in_ok-value.ensures.value (_, refl, (_, c.read.ensures, refl)))

pub returns-clause-newest : goal.returns-clause-newest
returns-clause-newest g c =
    rw (← c.self.view_is) (ap (λ st. st.pairs) (read_back (g.K.PartialEq.eq c.args.key.now) c.self.inside.map
    c.in_ok-value.value.now (sym c.in_ok-value.ensures.value)))

pub returns-in_err-value-clause-newest : goal.returns-in_err-value-clause-newest
returns-in_err-value-clause-newest g c =
    rw (← c.self.view_is) (sym (ap (λ st. st.pairs) (promoted-absent (g.K.PartialEq.eq c.args.key.now) c.self.inside.map
    (sym c.in_err-value.ensures.value))))
