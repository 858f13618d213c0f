use Rattle.std.proofs.Common.{[], refl}
use Rattle.lru_model.proofs.Theorems.Limits.{updated_within}
use Rattle.lru_model.proofs.Theorems.PlainInserts.{plain_update}
use Rattle.lru_model.proofs.CallbackLemmas.{takes_always}
use Rattle.schnellru.proofs.map.LruMap.update_with.Goals as goal

pub returns-clause-passed : goal.returns-clause-passed
returns-clause-passed g c = c.update_entry-updated.ensures.passed c.args.sink.now [] refl

pub returns-clause-step : goal.returns-clause-step
returns-clause-step g c = plain_update (returns-clause-passed g c).2

pub returns-clause-within : goal.returns-clause-within
returns-clause-within g c = updated_within (returns-clause-step g c)

pub returns-clause-callable : goal.returns-clause-callable
returns-clause-callable g c = let (passed, taken, step) = returns-clause-passed g c in
    takes_always g.F.FnMut passed c.args.sink.now _ taken
