use Rattle.std.proofs.Common.{◌≡◌, ◌+◌, ◌<◌, zero-le, [], ◌++◌, length, take, sym, ap, subst, ◌∙◌, arith}
use Rattle.std.proofs.lemmas.List.{append-nil, take_all, nil_from_length}
use Rattle.std.proofs.Math.Seq.{take-nil}
use Rattle.std.specs.Io.BufRead.{FillKeeps}
use Rattle.std.specs.Io.KnownBytes.{Consumes}
use Rattle.std.proofs.KnownBytes.{Consumes-nil, Consumes-kept}
use Rattle.std.proofs.BufReadLemmas.{Consumes_shown}
use Rattle.lru_replay.specs.declared.lines.line.TheConstants.{HELD}
use Rattle.lru_replay.proofs.lines.line.take_piece.Goals as goal

pub returns-then-eq-clause-ok : goal.returns-then-eq-clause-ok
returns-then-eq-clause-ok g c = (
  [],
  (tt, Consumes-kept _ _ _ [] (Consumes-nil _) c.fill_buf.follows.holds-at-none.0),
  sym
      (ap (take HELD) (append-nil c.args.line.now) ∙ take_all HELD c.args.line.now c.requires),
)

pub returns-then-len-eq0-clause-ok : goal.returns-then-len-eq0-clause-ok
returns-then-len-eq0-clause-ok g c =
    let shown = c.in-Ok.available.now in
    let rested = c.fill_buf.follows.lender-at-none in
    let filled = subst (FillKeeps _ (g.R.Read.remaining rested) (g.R.BufRead.consumable_len rested)) c.in-Ok.is
    c.fill_buf.follows.holds-at-none in
    let moved = Consumes_shown (g.R.Read.remaining c.args.reader.now) (g.R.Read.remaining rested) _
    (g.R.BufRead.consumable_len rested) shown 0 zero-le c.in-Ok.ensures.front c.in-Ok.ensures.end filled.0 filled.1
    c.consume.ensures.bytes in
    let none : shown ≡ [] = nil_from_length shown c.if-len-eq0.true in (
      [],
      (tt, moved.0, moved.1 c.if-len-eq0.true),
      c.extend.ensures ∙ ap (λ l. take HELD (c.args.line.now ++ l))
          (ap (take c.index_of-at.result) none ∙ take-nil c.index_of-at.result),
    )

pub returns-clause-ok : goal.returns-clause-ok
returns-clause-ok g c =
    let shown = c.in-Ok.available.now in
    let at = c.index_of-at in
    let more : at.result < length shown = omega (arith, at.ensures.within, c.if-at-len.false) in
    let rested = c.fill_buf.follows.lender-at-none in
    let filled = subst (FillKeeps _ (g.R.Read.remaining rested) (g.R.BufRead.consumable_len rested)) c.in-Ok.is
    c.fill_buf.follows.holds-at-none in
    let moved = Consumes_shown (g.R.Read.remaining c.args.reader.now) (g.R.Read.remaining rested) _
    (g.R.BufRead.consumable_len rested) shown (at.result + 1)
    (omega (arith, more)) c.in-Ok.ensures.front c.in-Ok.ensures.end filled.0 filled.1 c.consume-2.ensures.bytes in (
      take at.result shown,
      (at.ensures.before, subst (Consumes _ _) (at.ensures.through more) moved.0),
      c.extend.ensures,
    )
