use Rattle.std.proofs.Common.{subst}
use Rattle.lru_replay.specs.Output.{Writes, taken_text}
use Rattle.lru_replay.proofs.WrittenTexts.{writes_after}
use Rattle.lru_replay.proofs.lines.taken.write_taken.Goals as goal

pub returns : goal.returns
returns g c begun text begins =
    let wrote = subst (λ r. Writes begun (g.W.Write.contents c.args.writer.now) r text) c.in_ok-before.was begins in
    writes_after begun _ _ text (taken_text c.args.any c.args.taken) c.write_next.result wrote c.write_next.ensures
