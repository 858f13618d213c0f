use Rattle.std.proofs.Common.{refl, sym}
use Rattle.lru_model.specs.Pops.{rejected, accepted}
use Rattle.schnellru.proofs.map.LruMap.pop_oldest_if.Goals as goal

pub returns-then-not-accepts-clause-step : goal.returns-then-not-accepts-clause-step
returns-then-not-accepts-clause-step g c = let key = c.in_ok-key.key in let value = c.in_ok-key.value in
    rejected (key.now, value.now) (sym c.in_ok-key.ensures)
    (key, value, refl, refl, (rw c.if-not-accepts.true at c.accepts.ensures)) refl refl

pub returns-clause-step : goal.returns-clause-step
returns-clause-step g c = let key = c.in_ok-key.key in let value = c.in_ok-key.value in
    accepted (key.now, value.now) (sym c.in_ok-key.ensures)
    (key, value, refl, refl, (rw c.if-not-accepts.false at c.accepts.ensures)) c.pop_oldest.ensures.step
