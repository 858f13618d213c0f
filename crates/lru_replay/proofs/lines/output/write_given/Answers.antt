use Rattle.std.proofs.lemmas.Result.{err_from_is_err_and}
use Rattle.lru_replay.proofs.WrittenTexts.{writes_after, failed_front}
use Rattle.lru_replay.proofs.lines.output.write_given.Goals as goal

pub returns-in_err-write_insert : goal.returns-in_err-write_insert
returns-in_err-write_insert g c =
    let p = err_from_is_err_and c.from_residual.result c.from_residual.ensures.1 in
    rw (p.1, p.2) (failed_front _ _ _ _ _ c.in_err-write_insert.ensures)

pub returns : goal.returns
returns g c = writes_after _ _ _ _ _ _ c.in_ok-write_insert.ensures c.write_passed.ensures
