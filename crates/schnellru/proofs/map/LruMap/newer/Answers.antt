use Rattle.ordered_table.proofs.Tables.Places.{got_in}
use Rattle.schnellru.proofs.Positions.{previous_place}
use Rattle.schnellru.proofs.map.LruMap.newer.Goals as goal

pub newer_unless_first-requires : goal.newer_unless_first-requires
newer_unless_first-requires g c = c.self.invariant.linked.only c.args.b
    (got_in c.self.inside.entries.order c.args.at c.args.b (rw (← c.self.view_is) at c.requires))

pub returns-then-at-gt0 : goal.returns-then-at-gt0
returns-then-at-gt0 g c = let order = c.self.inside.entries.order in
    rw (← c.self.view_is) (previous_place order c.args.at c.args.b c.newer_unless_first.result
    c.self.invariant.linked.distinct (rw (← c.self.view_is) at c.requires) c.if-at-gt0.true
    c.newer_unless_first.ensures.newer)
