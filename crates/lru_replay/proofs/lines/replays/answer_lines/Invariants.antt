-- The lines so far were read whole, and the text of a run over them was written.
use Rattle.lru_replay.proofs.AnsweredLines.{RunsSoFar}
use Rattle.lru_replay.proofs.lines.replays.answer_lines.Given as goal

abbrev pub invariant-loop : goal.invariant-loop
invariant-loop g l = RunsSoFar g.L.Limiter.rules g.L.Insertion.offers g.L.ReportsCost.reported l.fn.map
    (g.R.Read.remaining l.fn.reader) (g.R.Read.remaining l.reader) (g.W.Write.contents l.fn.writer)
    (g.W.Write.contents l.writer) l.map
