use Rattle.lru_replay.proofs.lines.replays.answer_under.Goals as goal

pub returns-in-Length : goal.returns-in-Length
returns-in-Length g c = rw (c.in-Length.is, ← c.new.ensures) c.answer_with.ensures

pub returns-in-Memory : goal.returns-in-Memory
returns-in-Memory g c = rw (c.in-Memory.is, ← c.new-limiter.ensures) c.answer_with-in-Memory.ensures

pub returns-in-Cost : goal.returns-in-Cost
returns-in-Cost g c = rw (c.in-Cost.is, ← c.new-in-Cost.ensures) c.answer_with-in-Cost.ensures
