use Rattle.std.proofs.lemmas.Result.{err_from_is_err_and}
use Rattle.lru_replay.proofs.WrittenTexts.{writes_after, failed_front}
use Rattle.lru_replay.proofs.lines.pairs.write_pairs.Goals as goal

pub returns-in_err-write_pair : goal.returns-in_err-write_pair
returns-in_err-write_pair g c =
    let p = err_from_is_err_and c.from_residual.result c.from_residual.ensures.1 in
    rw (p.1, p.2, c.in-Some.ensures.steps) (failed_front _ _ _ _ _ c.in_err-write_pair.ensures)

pub returns : goal.returns
returns g c = rw c.in-Some.ensures.steps
    (writes_after _ _ _ _ _ _ c.in_ok-write_pair.ensures c.write_rest.ensures)
