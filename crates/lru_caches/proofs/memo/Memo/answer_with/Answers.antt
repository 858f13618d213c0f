use Rattle.std.proofs.Common.{refl, sym, subst}
use Rattle.std.proofs.lemmas.Fn.{says_at}
use Rattle.std.specs.Fn.{FnReturnsAt, FnOnceReturnsAt}
use Rattle.std.specs.Prelude.{IfSome}
use Rattle.lru_model.specs.Runs.{calls, inserts}
use Rattle.lru_caches.specs.Answers.{AreAnswers}
use Rattle.lru_caches.proofs.StoredAnswers.{got_answer, inserted_answer}
use Rattle.lru_caches.proofs.memo.Memo.answer_with.Goals as goal

pub returns-in-Some : goal.returns-in-Some
returns-in-Some g c =
    let value = c.in-Some.value.now in
    let there = sym c.in-Some.ensures.value in
    let known = subst (λ m. AreAnswers g.K.PartialEq.eq (FnReturnsAt g.F.Fn m.function) m.map.pairs)
    (sym c.self.view_is) c.requires.known in
    let got = got_answer g.L.Limiter.rules g.L.Insertion.offers g.met.K.Eq.laws g.S.KeyHasher.hash_of
    (FnReturnsAt g.F.Fn c.self.inside.function) c.args.key value c.self.inside.map known there in
    rw (← c.self.view_is) (record {
      answer = (value, got.answer, got.step, (_, c.read.ensures, refl));
      map = c.in-Some.ensures.map value;
      stored = subst (λ o. IfSome o (λ v. FnOnceReturnsAt g.U.FnOnce c.args.read v c.read.result))
          c.in-Some.ensures.value (_, c.read.ensures, refl);
      known = got.known;
      function = refl;
    })

pub returns : goal.returns
returns g c =
    let value = c.call-value.result in
    let none = sym c.in_default.ensures.value in
    let known = subst (λ m. AreAnswers g.K.PartialEq.eq (FnReturnsAt g.F.Fn m.function) m.map.pairs)
    (sym c.self.view_is) c.requires.known in
    let insert = c.insert.ensures in
    let made = inserted_answer g.L.Limiter.rules g.L.Insertion.offers g.met.K.Eq.laws g.S.KeyHasher.hash_of
    (FnReturnsAt g.F.Fn c.self.inside.function) c.args.key value c.self.inside.map known c.self.invariant
    (says_at g.F.Fn c.call-value.ensures refl) c.insert.result c.insert.new.self
    (c.calls_evict_the_oldest.ensures.given c.self.inside.map c.insert.new.self
    (calls (inserts c.args.key value c.insert.result insert.step)))
    insert.ends none insert.step in
    rw (← c.self.view_is) (record {
      answer = (value, made.answer, made.step, (_, c.read-result.ensures, refl));
      map = insert.map;
      stored = subst (λ o. IfSome o (λ v. FnOnceReturnsAt g.U.FnOnce c.args.read v c.read-result.result)) (sym none) tt;
      known = made.known;
      function = refl;
    })
