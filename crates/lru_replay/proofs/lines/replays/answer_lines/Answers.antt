use Rattle.std.proofs.Common.{[], ◌∙◌, Ok, Err, refl}
use Rattle.std.proofs.KnownBytes.{Appends-nil, Consumes-nil}
use Rattle.std.proofs.lemmas.Result.{err_from_is_err_and}
use Rattle.lru_replay.proofs.AnsweredLines.{line_answered, last_answered, line_cut, read_failed, all_answered}
use Rattle.lru_replay.proofs.HeldBytes.{whole_answer}
use Rattle.lru_replay.proofs.lines.replays.answer_lines.Goals as goal

pub loop-init : goal.loop-init
loop-init g c = record {
  lines = [];
  text = [];
  run = ([], refl, refl);
  reads = (tt, tt, Consumes-nil _);
  wrote = Appends-nil _;
}

pub returns-in_err-read_line : goal.returns-in_err-read_line
returns-in_err-read_line g c =
    let (bytes, part) = c.in_err-read_line.ensures.err in
    let p = err_from_is_err_and c.from_residual.result c.from_residual.ensures.1 in
    rw (p.1, p.2, c.in_err-read_line.ensures.failed) (read_failed c.loop.invariant _ bytes part)

pub returns-in_err-answer_line-in-Feed : goal.returns-in_err-answer_line-in-Feed
returns-in_err-answer_line-in-Feed g c =
    let (bytes, taken, held) = c.in_ok-read_line.ensures.ok in
    let read = rw c.in-Feed.is at taken in
    let failed = c.in_err-answer_line-in-Feed in
    let answered = whole_answer _ _ g.L.ReportsCost.reported (Err failed.field-0.0) _ _ _ _
    (g.W.Write.contents c.loop.writer) (g.W.Write.contents c.answer_line.new.writer) (c.as_slice.ensures ∙ held)
    failed.ensures.step in
    let p = err_from_is_err_and c.from_residual-in_err-answer_line-in-Feed.result
    c.from_residual-in_err-answer_line-in-Feed.ensures.1 in
    rw (p.1, p.2) (line_cut c.loop.invariant _ bytes _ _ failed.ensures.map _ read answered)

pub returns-in-InputEnd : goal.returns-in-InputEnd
returns-in-InputEnd g c =
    let (bytes, taken, held) = c.in_ok-read_line.ensures.ok in
    let call = c.answer_line-in-InputEnd in
    let read = rw c.in-InputEnd.is at taken in
    let answered = whole_answer _ _ g.L.ReportsCost.reported _ _ _ _ _ _ _ (c.as_slice-in-InputEnd.ensures ∙ held)
    call.ensures.step in
    last_answered c.loop.invariant _ bytes _ _ call.ensures.map read.0 read.1 _ answered

pub returns-in-Nothing : goal.returns-in-Nothing
returns-in-Nothing g c =
    let (bytes, taken, held) = c.in_ok-read_line.ensures.ok in
    let read = rw c.in-Nothing.is at taken in
    all_answered c.loop.invariant _ bytes read.0 read.1

pub loop-preserved : goal.loop-preserved
loop-preserved g c =
    let (bytes, taken, held) = c.in_ok-read_line.ensures.ok in
    let read = rw c.in-Feed.is at taken in
    let next = c.in_ok-answer_line-in-Feed.ensures in
    let answered = whole_answer _ _ g.L.ReportsCost.reported (Ok tt) _ _ _ _ (g.W.Write.contents c.loop.writer)
    (g.W.Write.contents c.answer_line.new.writer) (c.as_slice.ensures ∙ held) next.step in
    line_answered c.loop.invariant _ bytes _ _ next.map read answered

pub returns : goal.returns
returns g c = let so_far = c.loop.invariant in
    (so_far.lines, so_far.text, [], (c.loop.map, so_far.run), so_far.reads, so_far.wrote)
