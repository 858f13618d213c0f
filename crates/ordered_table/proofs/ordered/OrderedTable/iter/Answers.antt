use Rattle.std.proofs.Common.{ap, sym, ◌∙◌, length, Some, arith}
use Rattle.std.proofs.iter.runs.Sources.{from_front, from_back}
use Rattle.std.specs.Map.Iter.{deref_pair, TakesFirst, TakesLast}
use Rattle.ordered_table.proofs.Tables.WalkRests.{rest-whole}
use Rattle.ordered_table.proofs.ordered.OrderedTable.iter.Goals.{then-left-eq0, else-left-eq0}
use Rattle.ordered_table.proofs.ordered.OrderedTable.iter.Goals as goal

pub returns-clause-runs : goal.returns-clause-runs
returns-clause-runs g c = from_front (TakesFirst deref_pair) deref_pair (λ s. s) (λ s t h. ap length h.0) (λ s x t h. h)

pub returns-clause-runs_back : goal.returns-clause-runs_back
returns-clause-runs_back g c =
    from_back (TakesLast deref_pair) deref_pair (λ s. s) (λ s t h. ap length h.0) (λ s x t h. h)

pub invariant_of-result : goal.invariant_of-result
invariant_of-result g c =
    let t = c.args.self.now in
    rw c.len-left.ensures.len (rest-whole t c.if-left-eq0.front.0 c.if-left-eq0.front.1 c.len-left.ensures.linked
    (λ some. elim c.if-left-eq0.branch [
      | then-left-eq0 w ↦ absurd (omega (arith, some, w.if-left-eq0.true, c.len-left.ensures.len))
      | else-left-eq0 w ↦ (
        w.newest.ensures.newest ∙ ap (λ ends. Some ends.0) (sym w.front-is),
        w.oldest.ensures.oldest ∙ ap (λ ends. Some ends.1) (sym w.front-is),
      )
    ]))
