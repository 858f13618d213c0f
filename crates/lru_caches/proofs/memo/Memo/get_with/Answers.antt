use Rattle.std.proofs.Common.{◌≡◌, Option, Some, None, refl, sym, subst}
use Rattle.std.specs.Fn.{FnReturnsAt, FnOnceReturnsAt}
use Rattle.std.specs.Prelude.{MatchOption}
use Rattle.lru_model.proofs.CallerLemmas.{read-all, read_back, promoted-absent}
use Rattle.lru_caches.specs.Answers.{IsAnswer, AreAnswers}
use Rattle.lru_caches.proofs.memo.Memo.get_with.Goals as goal

pub returns : goal.returns
returns g c =
    let names = g.Q.LookupKey.names c.args.key.now in
    let old = c.self.inside.map in
    let value = c.in_ok-value.value.now in
    let there = sym c.in_ok-value.ensures.value in
    let result : Option g.row.R.Denot = Some c.read.result in
    let known = subst (λ m. AreAnswers g.K.PartialEq.eq (FnReturnsAt g.F.Fn m.function) m.map.pairs)
    (sym c.self.view_is) c.requires.known in
    rw (← c.self.view_is) (record {
      stored = subst (λ o. MatchOption o (result ≡ None) (λ value. (given : g.row.R.Denot) × (result ≡ Some given)
          × FnOnceReturnsAt g.U.FnOnce c.args.read value given)) c.in_ok-value.ensures.value
          (_, refl, (_, c.read.ensures, refl));
      step = read_back names old value there;
      map = c.in_ok-value.ensures.map value;
      known = read-all names old (λ p. IsAnswer g.K.PartialEq.eq (FnReturnsAt g.F.Fn c.self.inside.function) p.0 p.1)
          value there known;
      function = refl;
    })

pub returns-in_err-value-clause-step : goal.returns-in_err-value-clause-step
returns-in_err-value-clause-step g c = rw (← c.self.view_is) (sym (promoted-absent
    (g.Q.LookupKey.names c.args.key.now) c.self.inside.map (sym c.in_err-value.ensures.value)))

pub returns-in_err-value-clause-known : goal.returns-in_err-value-clause-known
returns-in_err-value-clause-known g c =
    subst (λ m. AreAnswers g.K.PartialEq.eq (FnReturnsAt g.F.Fn m.function) m.map.pairs) (sym c.self.view_is)
    c.requires.known
