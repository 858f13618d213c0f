use Rattle.std.proofs.Common.{[], refl, sym, ◌∙◌, subst}
use Rattle.lru_model.specs.State.{contents, IsWithin, Leaves}
use Rattle.lru_model.specs.Callbacks.{noting, noted}
use Rattle.lru_model.proofs.CallbackLemmas.{takes_always}
use Rattle.lru_model.proofs.States.LeavingPairs.{leaves_self, trim-empty}
use Rattle.lru_model.proofs.PairLists.Emptiness.{empty-length}
use Rattle.lru_model.proofs.Theorems.InsertAnswers.{trim_ends}
use Rattle.lru_model.proofs.Theorems.Moves.{left_are}
use Rattle.lru_model.proofs.Theorems.PlainInserts.{plain_trims}
use Rattle.schnellru.proofs.map.LruMap.trim_with.Goals.{then-not-is_empty, else-not-is_empty}
use Rattle.schnellru.proofs.map.LruMap.trim_with.Goals as goal

pub returns-clause-passed : goal.returns-clause-passed
returns-clause-passed g c = let st = c.args.self.now in let rules = g.L.Limiter.rules in
    elim c.if-not-is_empty.branch [
      | then-not-is_empty w ↦ rw (w.self-is, w.sink-is) (w.evict_over_limit.ensures.passed c.args.sink.now [] refl)
      | else-not-is_empty w ↦ rw (w.self-is, w.sink-is) (
        [],
        refl,
        subst (λ left. Leaves (noted [] st) left (noted [] st))
            (sym (trim-empty (noting rules) (contents (noted [] st))
            (empty-length st.pairs (sym c.is_empty.ensures ∙ w.if-not-is_empty.false))))
            (leaves_self (noted [] st)),
      )
    ]

pub returns-clause-step : goal.returns-clause-step
returns-clause-step g c = let (passed, taken, step) = returns-clause-passed g c in
    plain_trims g.L.Limiter.rules [] passed c.args.self.now c.if-not-is_empty.self step

pub returns-clause-within : goal.returns-clause-within
returns-clause-within g c = let rules = g.L.Limiter.rules in
    subst (IsWithin rules) (sym (left_are c.args.self.now _ c.if-not-is_empty.self (returns-clause-step g c)))
    (trim_ends rules (contents c.args.self.now))

pub returns-clause-callable : goal.returns-clause-callable
returns-clause-callable g c = let (passed, taken, step) = returns-clause-passed g c in
    takes_always g.F.FnMut passed c.args.sink.now c.if-not-is_empty.sink taken
