use Rattle.std.proofs.lemmas.Result.{err_from_is_err_and}
use Rattle.lru_replay.proofs.WrittenTexts.{writes_after, failed_front}
use Rattle.lru_replay.proofs.lines.output.write_next.Goals as goal

pub returns-in_err-write_bytes : goal.returns-in_err-write_bytes
returns-in_err-write_bytes g c =
    let p = err_from_is_err_and c.from_residual.result c.from_residual.ensures.1 in
    rw (c.in-Some.is, c.if-not-any.false, p.1, p.2) (failed_front _ _ _ _ _ c.in_err-write_bytes.ensures)

pub returns : goal.returns
returns g c = rw (c.in-Some.is, c.if-not-any.false)
    (writes_after _ _ _ _ _ _ c.in_ok-write_bytes.ensures c.write_pair-2.ensures)
