use Rattle.std.proofs.Common.{[], refl}
use Rattle.lru_model.proofs.Theorems.OutOfMemory.{insert_ends}
use Rattle.lru_model.proofs.Theorems.PlainInserts.{plain_insert}
use Rattle.lru_model.proofs.CallbackLemmas.{takes_always}
use Rattle.schnellru.proofs.map.LruMap.insert_hashed.Goals as goal

pub returns-clause-step : goal.returns-clause-step
returns-clause-step g c = plain_insert (c.insert_or_replace-inserted.ensures.passed c.args.sink.now [] refl).2

pub returns-clause-passed : goal.returns-clause-passed
returns-clause-passed g c = c.insert_or_replace-inserted.ensures.passed c.args.sink.now [] refl

pub returns-clause-ends : goal.returns-clause-ends
returns-clause-ends g c = insert_ends g.met.I.LookupKey.laws g.met.L.Insertion.laws c.show_map.ensures
    (returns-clause-step g c)

pub returns-clause-callable : goal.returns-clause-callable
returns-clause-callable g c = let (passed, taken, step) = returns-clause-passed g c in
    takes_always g.F.FnMut passed c.args.sink.now _ taken
