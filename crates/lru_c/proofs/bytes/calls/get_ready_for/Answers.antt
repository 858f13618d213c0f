use Rattle.std.proofs.Common.{◌≡◌, refl, sym, ◌∙◌, true, Result, Ok, Err}
use Rattle.std.proofs.lemmas.Bool.{true≢false}
use Rattle.std.specs.Result.{is_ok}
use Rattle.lru_c.specs.Bytes.IsReady.{reserved}
use Rattle.lru_c.proofs.bytes.calls.get_ready_for.Goals as goal

succeeded : {E : Type 0} (result : Result (Unit {0}) E) → is_ok result ≡ true → result ≡ Ok tt
succeeded (Ok done) ok = refl
succeeded (Err error) ok = absurd (true≢false (sym ok))

pub returns-clause-ready : goal.returns-clause-ready
returns-clause-ready c = λ ok.
    let done = succeeded c.try_reserve.result (sym c.is_ok.ensures.value ∙ ok) in
    reserved (sym c.contains.ensures ∙ c.if-contains.false) (rw done at c.try_reserve.ensures.step)
