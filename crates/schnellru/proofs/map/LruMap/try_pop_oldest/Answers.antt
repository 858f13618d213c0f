use Rattle.std.proofs.Common.{refl, sym}
use Rattle.lru_model.specs.Pops.{failed, popped}
use Rattle.schnellru.proofs.map.LruMap.try_pop_oldest.Goals as goal

pub returns-in-Ok-clause-step : goal.returns-in-Ok-clause-step
returns-in-Ok-clause-step g c = let key = c.in-Some.key in let value = c.in-Some.value in
    popped (key.now, value.now) (sym c.in-Some.ensures) (key, value, refl, refl, c.in-Ok.ensures)
    c.pop_oldest.result refl c.pop_oldest.ensures.step

pub returns-in-Err-clause-step : goal.returns-in-Err-clause-step
returns-in-Err-clause-step g c = let key = c.in-Some.key in let value = c.in-Some.value in
    failed (key.now, value.now) (sym c.in-Some.ensures) c.in-Err.error
    (key, value, refl, refl, c.in-Err.ensures) refl refl
