use Rattle.std.proofs.Common.{◌++◌, take, ap, sym, ◌∙◌}
use Rattle.std.proofs.KnownBytes.{Appends-trans, Appends-kept}
use Rattle.lru_trace.proofs.Written.{moved_on}
use Rattle.lru_trace.proofs.output.write_bytes.Goals.{in-Ok, in-Err+else-ne}
use Rattle.lru_trace.proofs.output.write_bytes.Goals as goal

pub loop-preserved : goal.loop-preserved
loop-preserved g c =
    let (done, split, appended) = c.loop.invariant in
    let rest = c.loop.rest.now in
    let begun = g.W.Write.contents c.args.writer.now in
    let written = g.W.Write.contents c.loop.writer in
    elim c.match-write.branch [
      | in-Ok w ↦ (
        done ++ take w.in-Ok.n rest,
        moved_on _ done rest _ w.in-Ok.n split (ap (λ r. r.now) w.rest-is),
        Appends-trans begun written _ done _ appended w.in-Ok.ensures.bytes,
      )
      | in-Err+else-ne w ↦ (
        done,
        split ∙ ap (λ r. done ++ r.now) (sym w.rest-is),
        Appends-kept begun written _ done appended w.in-Err.ensures.bytes,
      )
    ]
