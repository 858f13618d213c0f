use Rattle.std.proofs.Common.{◌≡◌, ◌++◌, drop, length, ap, subst, IfSome}
use Rattle.std.specs.Io.{StopsAt, appended_bytes}
use Rattle.std.specs.Io.BufRead.{take_through}
use Rattle.std.specs.Io.KnownBytes.{Consumes}
use Rattle.lru_trace.proofs.ReadLines.{line_taken}
use Rattle.lru_trace.proofs.lines.read_line.Goals as goal

pub returns-in-Ok-clause-ok : goal.returns-in-Ok-clause-ok
returns-in-Ok-clause-ok g c =
    let from = g.R.Read.remaining c.args.reader.now in
    let to = g.R.Read.remaining c.read_until.new.self in
    let bytes = c.read_until.new.buf.items in
    let read = c.in-Ok.ensures in
    let all : appended_bytes c.clear.new.self.items bytes ≡ bytes = ap (λ l. drop (length l) bytes) c.clear.ensures.items
    in
    let is : IfSome from (λ input. bytes ≡ take_through 10 input)
    = subst (λ l. IfSome from (λ input. bytes ≡ l ++ take_through 10 input)) c.clear.ensures.items read.bytes in
    line_taken from to bytes (subst (λ l. StopsAt l 10) all read.stops) (subst (Consumes from to) all read.none_lost)
    is read.rest c.take_feed.result c.take_feed.new.line.items c.take_feed.ensures
