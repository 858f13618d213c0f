use Rattle.std.proofs.Common.{◌≡◌, rules, sym, subst}
use Rattle.std.specs.Fn.{FnReturnsAt}
use Rattle.lru_caches.specs.Answers.{IsAnswer, Remembers, loads}
use Rattle.std.proofs.lemmas.Result.{IfOk-weaker}
use Rattle.lru_caches.proofs.StoredAnswers.{loaded_as_read}
use Rattle.lru_caches.proofs.memo.loader.Loader.load.Goals as goal

pub returns-clause-value : goal.returns-clause-value
returns-clause-value g c = IfOk-weaker c.load_with.result _ _ (λ given (value, is, step, copied).
    let same : given ≡ value = search rules in
    subst (IsAnswer g.K.PartialEq.eq (loads (FnReturnsAt g.F.Fn c.args.self.now.function)) c.args.key) (sym same) is)
    c.load_with.ensures.value

pub returns-clause-step : goal.returns-clause-step
returns-clause-step g c = IfOk-weaker c.load_with.result _ _ (λ given (value, is, step, copied).
    let same : given ≡ value = search rules in
    subst (λ v. Remembers g.L.Limiter.rules g.L.Insertion.offers g.K.PartialEq.eq g.S.KeyHasher.hash_of c.args.key v
    c.args.self.now.map c.load_with.new.self.map) (sym same) step) c.load_with.ensures.value

pub returns-clause-loaded : goal.returns-clause-loaded
returns-clause-loaded g c = λ none. loaded_as_read (c.load_with.ensures.loaded none)
    (λ value given (shown, copied, shows). search rules)
