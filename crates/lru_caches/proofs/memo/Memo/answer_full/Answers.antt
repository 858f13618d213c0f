use Rattle.std.proofs.Common.{◌≡◌, Bool, true, false, refl, sym, subst}
use Rattle.std.proofs.lemmas.Fn.{says_at}
use Rattle.std.specs.Fn.{FnReturnsAt}
use Rattle.std.specs.Prelude.{MatchOption}
use Rattle.lru_model.specs.Runs.{calls, inserts}
use Rattle.lru_caches.specs.Answers.{AreAnswers}
use Rattle.lru_caches.proofs.StoredAnswers.{got_answer, inserted_answer}
use Rattle.lru_caches.proofs.memo.Memo.answer_full.Goals as goal

pub returns-in-Some : goal.returns-in-Some
returns-in-Some g c =
    let value = c.in-Some.value.now in
    let there = sym c.in-Some.ensures.value in
    let known = subst (λ m. AreAnswers g.K.PartialEq.eq (FnReturnsAt g.F.Fn m.function) m.map.pairs)
    (sym c.self.view_is) c.requires.known in
    let got = got_answer g.L.Limiter.rules g.L.Insertion.offers g.met.K.Eq.laws g.S.KeyHasher.hash_of
    (FnReturnsAt g.F.Fn c.self.inside.function) c.args.key value c.self.inside.map known there in
    rw (← c.self.view_is) (record {
      answer = got.answer;
      called = subst (λ o. MatchOption o ((false ≡ true) × FnReturnsAt g.F.Fn c.self.inside.function c.args.key value)
          (λ v. ◌≡◌ {A = g.row.V.Denot × Bool} (value, false) (v, false))) c.in-Some.ensures.value refl;
      step = got.step;
      map = c.in-Some.ensures.map value;
      known = got.known;
      function = refl;
    })

pub returns : goal.returns
returns g c =
    let value = c.call-value.result in
    let none = sym c.in_default.ensures.value in
    let known = subst (λ m. AreAnswers g.K.PartialEq.eq (FnReturnsAt g.F.Fn m.function) m.map.pairs)
    (sym c.self.view_is) c.requires.known in
    let insert = c.insert-kept.ensures in
    let says = says_at g.F.Fn c.call-value.ensures refl in
    let made = inserted_answer g.L.Limiter.rules g.L.Insertion.offers g.met.K.Eq.laws g.S.KeyHasher.hash_of
    (FnReturnsAt g.F.Fn c.self.inside.function) c.args.key value c.self.inside.map known c.self.invariant
    says c.insert-kept.result c.insert-kept.new.self
    (c.calls_evict_the_oldest.ensures.given c.self.inside.map c.insert-kept.new.self
    (calls (inserts c.args.key value c.insert-kept.result insert.step)))
    insert.ends none insert.step in
    rw (← c.self.view_is) (record {
      answer = made.answer;
      called = subst (λ o. MatchOption o ((true ≡ true) × FnReturnsAt g.F.Fn c.self.inside.function c.args.key value)
          (λ v. ◌≡◌ {A = g.row.V.Denot × Bool} (value, true) (v, false))) (sym none) (refl, says);
      step = made.step;
      map = insert.map;
      known = made.known;
      function = refl;
    })
