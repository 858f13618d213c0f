use Rattle.std.proofs.Common.{length, ap, ◌∙◌, arith, inl, inr}
use Rattle.lru_model.proofs.PairLists.Emptiness.{last_cases}
use Rattle.lru_model.proofs.States.LeavingPairs.{length-without_last}
use Rattle.schnellru.proofs.walk.drain.DrainDoubleEndedIterator.next_back.Goals as goal

pub returns-clause-goes : goal.returns-clause-goes
returns-clause-goes g c =
    let step = c.pop_oldest.ensures.step in let old = c.args.self.now.map.now in
    let fewer = ap (λ st. length st.pairs) step.state.is ∙ length-without_last old.pairs in
    elim (last_cases old.pairs) [
      | inl none ↦ rw (step.pair, none) (record { on = λ f. tt; keeps = tt; rests = λ f. f })
      | inr e ↦ rw (step.pair, e.1)
          (record { on = λ f. (tt, f, omega (arith, e.2, fewer)); keeps = tt; rests = λ f. tt })
    ]
