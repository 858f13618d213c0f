use Rattle.std.proofs.Common.{◌≡◌, Bool, true, false, Result, Ok, Err, sym, ap, ◌∙◌}
use Rattle.std.specs.declared.alloc.AllocError.{AllocError}
use Rattle.std.specs.Result.{result_unwrap_or}
use Rattle.std.proofs.lemmas.Bool.{false≢true}
use Rattle.lru_model.proofs.CallerLemmas.{inserted-found}
use Rattle.lru_model.specs.Runs.{calls, inserts}
use Rattle.lru_caches.proofs.StoredAnswers.{inserted_known}
use Rattle.lru_caches.proofs.memo.table.MemoTable.store.Goals as goal

is_kept : (result : Result Bool AllocError) → result_unwrap_or result false ≡ true → result ≡ Ok true
is_kept (Ok kept) e = ap Ok e
is_kept (Err error) e = absurd (false≢true e)

pub invariant_of-self : goal.invariant_of-self
invariant_of-self g c =
    let (keeps, known) = c.self.invariant in
    let new = c.insert.new.self in (
      keeps,
      inserted_known g.L.Limiter.rules g.L.Insertion.offers g.met.K.Eq.laws g.S.KeyHasher.hash_of g.Q.Question.answers
          c.args.key c.args.value c.self.inside.map known keeps c.requires.answer c.insert.result new
          (c.calls_evict_the_oldest.ensures.given c.self.inside.map new
          (calls (inserts c.args.key c.args.value c.insert.result c.insert.ensures.step))) c.insert.ensures.ends,
    )

pub returns-clause-stored : goal.returns-clause-stored
returns-clause-stored g c = λ e. inserted-found c.self.invariant.0 _ g.K.PartialEq.eq c.args.key c.self.inside.map
    c.insert.new.self c.insert.result (is_kept c.insert.result (sym c.unwrap_or.ensures ∙ e)) c.insert.ensures.ends.says
    c.insert.ensures.ends.stores
