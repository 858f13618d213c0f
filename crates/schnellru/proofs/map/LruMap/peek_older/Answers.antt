use Rattle.std.proofs.Common.{Some, ap, sym, ◌∙◌}
use Rattle.std.specs.Option.{option_and_then}
use Rattle.std.specs.Prelude.{slice_get, ◌+◌}
use Rattle.lru_model.proofs.PairLists.Positions.{nowhere}
use Rattle.schnellru.proofs.Neighbours.{oldest_has_none, older_there, older_is}
use Rattle.schnellru.proofs.map.LruMap.peek_older.Goals as goal

pub returns-in_err-b : goal.returns-in_err-b
returns-in_err-b g c = rw c.from_residual.ensures (sym (ap (option_and_then (λ i. slice_get c.args.self.now.pairs (i + 1)))
    (nowhere (g.Q.LookupKey.names c.args.key.now) c.args.self.now.pairs c.in_err-b.ensures.none)))

pub returns-then-b-oldest : goal.returns-then-b-oldest
returns-then-b-oldest g c =
    let t = c.self.inside.entries in
    rw (← c.self.view_is) (sym (oldest_has_none (g.Q.LookupKey.names c.args.key.now) t c.self.invariant.linked c.in_ok-b.b
    (rw (← c.self.view_is) at c.in_ok-b.ensures.found) (c.oldest.ensures.oldest ∙ ap Some (sym c.if-b-oldest.true))))

pub pair-requires : goal.pair-requires
pair-requires g c =
    let t = c.self.inside.entries in
    let (d, next, full) = older_there (g.Q.LookupKey.names c.args.key.now) t c.self.invariant.linked c.in_ok-b.b
    (rw (← c.self.view_is) at c.in_ok-b.ensures.found) c.oldest.result c.oldest.ensures.oldest c.if-b-oldest.false in
    rw (c.older_unless_last.ensures.older d next) full

pub returns : goal.returns
returns g c =
    let t = c.self.inside.entries in
    let (d, next, full) = older_there (g.Q.LookupKey.names c.args.key.now) t c.self.invariant.linked c.in_ok-b.b
    (rw (← c.self.view_is) at c.in_ok-b.ensures.found) c.oldest.result c.oldest.ensures.oldest c.if-b-oldest.false in
    rw (← c.self.view_is) (sym (older_is (g.Q.LookupKey.names c.args.key.now) t c.self.invariant.linked c.in_ok-b.b
    (rw (← c.self.view_is) at c.in_ok-b.ensures.found) d _ next
    (rw (c.older_unless_last.ensures.older d next) at c.pair.ensures.pair)))
