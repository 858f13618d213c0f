use Rattle.std.proofs.lemmas.Bool.{ne_eqb}
use Rattle.std.proofs.lemmas.Result.{err_from_is_err_and}
use Rattle.lru_replay.proofs.WrittenTexts.{writes_after, failed_front}
use Rattle.lru_replay.proofs.lines.output.write_placed.Goals as goal

pub returns-in_err-write_named : goal.returns-in_err-write_named
returns-in_err-write_named g c =
    let p = err_from_is_err_and c.from_residual.result c.from_residual.ensures.1 in
    rw (p.1, p.2) (failed_front _ _ _ _ _ c.in_err-write_named.ensures)

pub returns-then-shrunk-eq0 : goal.returns-then-shrunk-eq0
returns-then-shrunk-eq0 g c = rw c.if-shrunk-eq0.true
    (writes_after _ _ _ _ _ _ c.in_ok-write_named.ensures c.write_bytes.ensures)

pub returns-else-shrunk-eq0 : goal.returns-else-shrunk-eq0
returns-else-shrunk-eq0 g c = rw (ne_eqb c.args.shrunk 0 c.if-shrunk-eq0.false)
    (writes_after _ _ _ _ _ _ c.in_ok-write_named.ensures c.write_named-else-shrunk-eq0.ensures)
