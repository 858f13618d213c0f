use Rattle.std.proofs.Common.{inl, refl}
use Rattle.lru_replay.proofs.calls.pairs.insert_with.Goals as goal

pub returns-in-Ok : goal.returns-in-Ok
returns-in-Ok g c = inl ((c.in-Ok.done, c.in-Ok.out.items), c.in-Ok.ensures.passed, refl)
