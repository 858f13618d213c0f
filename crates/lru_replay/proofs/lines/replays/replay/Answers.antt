use Rattle.lru_replay.proofs.EndedReplays.{flush_failed, replays-kept}
use Rattle.lru_replay.proofs.lines.replays.replay.Goals as goal

pub returns-in-Ok : goal.returns-in-Ok
returns-in-Ok g c = replays-kept _ _ _ _ _ _ c.flush.ensures.bytes c.answer_all-end.ensures

pub returns-in-Err : goal.returns-in-Err
returns-in-Err g c =
    flush_failed _ _ _ _ _ (replays-kept _ _ _ _ _ _ c.flush.ensures.bytes c.answer_all-end.ensures)
