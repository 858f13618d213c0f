use Rattle.std.proofs.Common.{[], ◌∷◌}
use Rattle.std.proofs.lemmas.Result.{err_from_is_err_and}
use Rattle.lru_replay.proofs.WrittenTexts.{writes_after, failed_front}
use Rattle.lru_replay.proofs.lines.replays.answer_line.Goals as goal

pub returns-in_err-carried_out-clause-step : goal.returns-in_err-carried_out-clause-step
returns-in_err-carried_out-clause-step g c =
    let p = err_from_is_err_and c.from_residual.result c.from_residual.ensures.1 in
    let (text, step, failed) = c.in_err-carried_out.ensures in
    (text, step, rw (p.1, p.2) (failed_front _ _ text (10 ∷ []) _ failed))

pub returns-clause-step : goal.returns-clause-step
returns-clause-step g c =
    let (text, step, written) = c.in_ok-carried_out.ensures in
    (text, step, writes_after _ _ _ text (10 ∷ []) c.write_bytes.result written c.write_bytes.ensures)
