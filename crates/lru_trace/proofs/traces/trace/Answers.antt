use Rattle.std.proofs.Common.{ap, ◌∙◌, subst}
use Rattle.std.proofs.KnownBytes.{Appends-kept, Keeps-refl}
use Rattle.std.specs.Io.KnownBytes.{Appends}
use Rattle.lru_trace.specs.Report.{written}
use Rattle.lru_trace.specs.Outcome.{Begins}
use Rattle.lru_trace.proofs.Ended.{reported, all_begun, out_of_memory}
use Rattle.lru_trace.proofs.traces.trace.Goals as goal

pub returns-then-not-write_bytes : goal.returns-then-not-write_bytes
returns-then-not-write_bytes g c =
    let read = rw c.in-Some.is at c.in_ok-read.ensures.ok in
    let old = g.W.Write.contents c.args.writer.now in
    let new = g.W.Write.contents c.write_bytes.new.writer in
    reported c.args.options read (c.in_ok-report.report.items)
    (λ warm trace of. c.in_ok-report.ensures warm trace of
    ∙ ap (λ ns. written c.args.options warm trace ns c.in-Some.read.others) c.deref.ensures.value)
    (Begins old new) (subst (Begins old new) c.deref-2.ensures.value c.if-not-write_bytes.ensures)

pub returns-in-Ok : goal.returns-in-Ok
returns-in-Ok g c =
    let read = rw c.in-Some.is at c.in_ok-read.ensures.ok in
    let old = g.W.Write.contents c.args.writer.now in
    let mid = g.W.Write.contents c.write_bytes.new.writer in
    let new = g.W.Write.contents c.flush.new.self in
    let report = c.in_ok-report.report.items in
    reported c.args.options read report
    (λ warm trace of. c.in_ok-report.ensures warm trace of
    ∙ ap (λ ns. written c.args.options warm trace ns c.in-Some.read.others) c.deref.ensures.value)
    (Appends old new) (Appends-kept old mid new report
    (subst (Appends old mid) c.deref-2.ensures.value c.if-not-write_bytes.ensures) c.flush.ensures.bytes)

pub returns : goal.returns
returns g c =
    let read = rw c.in-Some.is at c.in_ok-read.ensures.ok in
    let old = g.W.Write.contents c.args.writer.now in
    let mid = g.W.Write.contents c.write_bytes.new.writer in
    all_begun c.args.options read (c.in_ok-report.report.items)
    (λ warm trace of. c.in_ok-report.ensures warm trace of
    ∙ ap (λ ns. written c.args.options warm trace ns c.in-Some.read.others) c.deref.ensures.value)
    old mid (g.W.Write.contents c.flush.new.self)
    (subst (Appends old mid) c.deref-2.ensures.value c.if-not-write_bytes.ensures) c.flush.ensures.bytes

pub returns-in_err-report : goal.returns-in_err-report
returns-in_err-report g c =
    let read = rw c.in-Some.is at c.in_ok-read.ensures.ok in
    out_of_memory c.args.options (g.R.Read.remaining c.args.reader.now) (g.R.Read.remaining c.read_trace.new.reader)
    (g.W.Write.contents c.args.writer.now) c.from_residual-in_err-report.result c.from_residual-in_err-report.ensures
    (read.input, read.reads) (Keeps-refl (g.W.Write.contents c.args.writer.now))
