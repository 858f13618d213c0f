use Rattle.std.proofs.Common.{inl, refl}
use Rattle.lru_replay.proofs.calls.answer_to.Goals as goal

pub returns-in-Reserve : goal.returns-in-Reserve
returns-in-Reserve g c = rw c.in-Reserve.is (inl (c.try_reserve.result, c.try_reserve.ensures.step, refl))

pub returns-in-Shrink : goal.returns-in-Shrink
returns-in-Shrink g c = rw c.in-Shrink.is (inl (c.shrink_to_fit.result, c.shrink_to_fit.ensures.step, refl))

pub returns-in-Update : goal.returns-in-Update
returns-in-Update g c = rw c.in-Update.is (inl (c.update.result, c.update.ensures.step, refl))
