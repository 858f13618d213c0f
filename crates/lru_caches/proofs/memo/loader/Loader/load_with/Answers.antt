use Rattle.std.proofs.Common.{◌≡◌, rules, Result, Ok, refl, sym, subst}
use Rattle.std.proofs.lemmas.Fn.{says_at}
use Rattle.std.specs.Fn.{FnReturnsAt, FnOnceReturnsAt}
use Rattle.std.specs.Prelude.{IfSome}
use Rattle.lru_model.specs.Runs.{calls, inserts}
use Rattle.lru_caches.specs.Answers.{AreAnswers, loads, loaded, failed}
use Rattle.lru_caches.proofs.StoredAnswers.{got_answer, inserted_answer}
use Rattle.lru_caches.proofs.memo.loader.Loader.load_with.Goals as goal

pub returns-in-Some : goal.returns-in-Some
returns-in-Some g c =
    let value = c.in-Some.value.now in
    let there = sym c.in-Some.ensures.value in
    let known = subst (λ m. AreAnswers g.K.PartialEq.eq (loads (FnReturnsAt g.F.Fn m.function)) m.map.pairs)
    (sym c.self.view_is) c.requires.known in
    let got = got_answer g.L.Limiter.rules g.L.Insertion.offers g.met.K.Eq.laws g.S.KeyHasher.hash_of
    (loads (FnReturnsAt g.F.Fn c.self.inside.function)) c.args.key value c.self.inside.map known there in
    let result : Result g.row.R.Denot g.row.E.Denot = Ok c.read.result in
    rw (← c.self.view_is) (record {
      value = (value, got.answer, got.step, (_, c.read.ensures, refl));
      stored = subst (λ o. IfSome o (λ v. (given : g.row.R.Denot) × (result ≡ Ok given)
          × FnOnceReturnsAt g.U.FnOnce c.args.read v given)) c.in-Some.ensures.value (_, refl, (_, c.read.ensures, refl));
      loaded = search rules;
      map = c.in-Some.ensures.map value;
      failed = tt;
      known = got.known;
      function = refl;
    })

pub returns-in-Ok : goal.returns-in-Ok
returns-in-Ok g c =
    let value = c.in-Ok.value in
    let none = sym c.in_default.ensures.value in
    let known = subst (λ m. AreAnswers g.K.PartialEq.eq (loads (FnReturnsAt g.F.Fn m.function)) m.map.pairs)
    (sym c.self.view_is) c.requires.known in
    let loads_value = says_at g.F.Fn c.in-Ok.ensures refl in
    let insert = c.insert.ensures in
    let made = inserted_answer g.L.Limiter.rules g.L.Insertion.offers g.met.K.Eq.laws g.S.KeyHasher.hash_of
    (loads (FnReturnsAt g.F.Fn c.self.inside.function)) c.args.key value c.self.inside.map known c.self.invariant
    loads_value c.insert.result c.insert.new.self
    (c.calls_evict_the_oldest.ensures.given c.self.inside.map c.insert.new.self
    (calls (inserts c.args.key value c.insert.result insert.step)))
    insert.ends none insert.step in
    rw (← c.self.view_is) (record {
      value = (value, made.answer, made.step, (_, c.read-given.ensures, refl));
      stored = search rules;
      loaded = λ _. loaded value _ loads_value (_, c.read-given.ensures, refl) refl;
      map = insert.map;
      failed = tt;
      known = made.known;
      function = refl;
    })

pub returns-in-Err-clause-loaded : goal.returns-in-Err-clause-loaded
returns-in-Err-clause-loaded g c = rw (← c.self.view_is) (λ _. failed _ (says_at g.F.Fn c.in-Err.ensures refl) refl)

pub returns-in-Err-clause-known : goal.returns-in-Err-clause-known
returns-in-Err-clause-known g c =
    subst (λ m. AreAnswers g.K.PartialEq.eq (loads (FnReturnsAt g.F.Fn m.function)) m.map.pairs) (sym c.self.view_is)
    c.requires.known
