use Rattle.std.proofs.Common.{◌≡◌, ◌<◌, ℕ, List, Option, length, [], ◌∷◌, ◌++◌, take, sym, ap, subst, ◌∙◌, arith}
use Rattle.std.proofs.Common.{append_assoc}
use Rattle.std.proofs.lemmas.List.{length-take}
use Rattle.std.specs.Io.KnownBytes.{Consumes}
use Rattle.std.proofs.KnownBytes.{Consumes-trans}
use Rattle.lru_replay.specs.declared.lines.line.TheConstants.{HELD, LONGEST}
use Rattle.lru_replay.specs.Lines.{TakesPart, TakesRest}
use Rattle.lru_replay.proofs.ByteLists.{Lacks-append, kept_again, nothing_held, some_held, Consumes_end}
use Rattle.lru_replay.proofs.lines.line.read_line.Goals as goal

module _ (bytes more line next : List ℕ) (kept : line ≡ take HELD bytes) (now : next ≡ take HELD (line ++ more)) where
  held : next ≡ take HELD (bytes ++ more)
  held = now ∙ ap (λ l. take HELD (l ++ more)) kept ∙ kept_again HELD bytes more

rest_read : (from at to : Option (List ℕ)) (bytes more : List ℕ) → TakesPart from at bytes → TakesRest at to more
    → TakesRest from to (bytes ++ more)
rest_read from at to bytes more part taken = (
  Lacks-append 10 bytes more part.0 taken.0,
  Consumes-trans from at to bytes more part.1 taken.1,
  Consumes_end from at to bytes part.1 taken.2,
)

pub take_piece-requires : goal.take_piece-requires
take_piece-requires g c = let (bytes, part, kept) = c.loop.invariant in rw kept (omega (arith, length-take HELD bytes))

pub returns-in-Ok-Last-clause-ok : goal.returns-in-Ok-Last-clause-ok
returns-in-Ok-Last-clause-ok g c =
    let (bytes, part, kept) = c.loop.invariant in
    let from = g.R.Read.remaining c.args.reader.now in let at = g.R.Read.remaining c.loop.reader in
    let (more, taken, now) = rw c.in-Ok-Last.field-0-is at c.in-Ok-Last.ensures.ok in (
      bytes ++ more,
      (
        Lacks-append 10 bytes more part.0 taken.0,
        subst (Consumes _ _) (sym (append_assoc bytes more (10 ∷ [])))
            (Consumes-trans from at _ bytes _ part.1 taken.1),
      ),
      held bytes more _ _ kept now,
    )

pub returns-then-is_empty-clause-ok : goal.returns-then-is_empty-clause-ok
returns-then-is_empty-clause-ok g c =
    let (bytes, part, kept) = c.loop.invariant in
    let from = g.R.Read.remaining c.args.reader.now in let at = g.R.Read.remaining c.loop.reader in
    let (more, taken, now) = rw c.in-Ok-End.field-0-is at c.in-Ok-End.ensures.ok in
    let is = held bytes more _ _ kept now in
    let none = nothing_held LONGEST _ (sym is ∙ c.if-is_empty.ensures) in
    (bytes ++ more, (rest_read from at _ bytes more part taken, none), is)

pub returns-else-is_empty-clause-ok : goal.returns-else-is_empty-clause-ok
returns-else-is_empty-clause-ok g c =
    let (bytes, part, kept) = c.loop.invariant in
    let from = g.R.Read.remaining c.args.reader.now in let at = g.R.Read.remaining c.loop.reader in
    let (more, taken, now) = rw c.in-Ok-End.field-0-is at c.in-Ok-End.ensures.ok in
    let is = held bytes more _ _ kept now in
    let some = some_held HELD _ (subst (λ l. 0 < length l) is c.if-is_empty.ensures) in
    (bytes ++ more, (rest_read from at _ bytes more part taken, some), is)

pub loop-preserved : goal.loop-preserved
loop-preserved g c =
    let (bytes, part, kept) = c.loop.invariant in
    let from = g.R.Read.remaining c.args.reader.now in let at = g.R.Read.remaining c.loop.reader in
    let (more, taken, now) = rw c.in-Ok-Part.field-0-is at c.in-Ok-Part.ensures.ok in (
      bytes ++ more,
      (Lacks-append 10 bytes more part.0 taken.0, Consumes-trans from at _ bytes _ part.1 taken.1),
      held bytes more _ _ kept now,
    )
