use Rattle.std.proofs.Common.{length}
use Rattle.lru_trace.proofs.ReadLines.{a_key, not_key, nonempty}
use Rattle.lru_trace.proofs.lines.key_of.Goals as goal

pub returns-in-Ok : goal.returns-in-Ok
returns-in-Ok c =
    let line = c.args.line.now in
    let is = c.in-Ok.ensures.cases in
    (is.0, a_key line (nonempty (length line) c.if-is_empty.ensures) c.if-line-gt-LONGEST_KEY.false is.1)

pub returns-in-Err : goal.returns-in-Err
returns-in-Err c =
    let line = c.args.line.now in
    not_key line (nonempty (length line) c.if-is_empty.ensures) c.if-line-gt-LONGEST_KEY.false c.in-Err.ensures.cases.0
