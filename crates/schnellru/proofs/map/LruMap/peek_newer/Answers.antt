use Rattle.std.proofs.Common.{Some, ap, sym, ◌∙◌}
use Rattle.std.specs.Option.{option_and_then}
use Rattle.lru_model.specs.Lists.{last_of}
use Rattle.lru_model.proofs.PairLists.Positions.{nowhere}
use Rattle.schnellru.proofs.Neighbours.{newest_has_none, newer_there, newer_is}
use Rattle.schnellru.proofs.map.LruMap.peek_newer.Goals as goal

pub returns-in_err-b : goal.returns-in_err-b
returns-in_err-b g c = rw c.from_residual.ensures (sym (ap (option_and_then (λ i. last_of i c.args.self.now.pairs))
    (nowhere (g.Q.LookupKey.names c.args.key.now) c.args.self.now.pairs c.in_err-b.ensures.none)))

pub returns-then-b-newest : goal.returns-then-b-newest
returns-then-b-newest g c =
    let t = c.self.inside.entries in
    rw (← c.self.view_is) (sym (newest_has_none (g.Q.LookupKey.names c.args.key.now) t c.self.invariant.linked c.in_ok-b.b
    (rw (← c.self.view_is) at c.in_ok-b.ensures.found) (c.newest.ensures.newest ∙ ap Some (sym c.if-b-newest.true))))

pub pair-requires : goal.pair-requires
pair-requires g c =
    let t = c.self.inside.entries in
    let (d, next, full) = newer_there (g.Q.LookupKey.names c.args.key.now) t c.self.invariant.linked c.in_ok-b.b
    (rw (← c.self.view_is) at c.in_ok-b.ensures.found) c.newest.result c.newest.ensures.newest c.if-b-newest.false in
    rw (c.newer_unless_first.ensures.newer d next) full

pub returns : goal.returns
returns g c =
    let t = c.self.inside.entries in
    let (d, next, full) = newer_there (g.Q.LookupKey.names c.args.key.now) t c.self.invariant.linked c.in_ok-b.b
    (rw (← c.self.view_is) at c.in_ok-b.ensures.found) c.newest.result c.newest.ensures.newest c.if-b-newest.false in
    rw (← c.self.view_is) (sym (newer_is (g.Q.LookupKey.names c.args.key.now) t c.self.invariant.linked c.in_ok-b.b
    (rw (← c.self.view_is) at c.in_ok-b.ensures.found) d _ next
    (rw (c.newer_unless_first.ensures.newer d next) at c.pair.ensures.pair)))
