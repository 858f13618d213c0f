use Rattle.std.proofs.Common.{◌+◌, sym, arith}
use Rattle.std.proofs.lemmas.Option.{slice_get_past}
use Rattle.ordered_table.proofs.Tables.Places.{got_in}
use Rattle.schnellru.proofs.Positions.{next_place}
use Rattle.schnellru.proofs.map.LruMap.older.Goals as goal

pub older_unless_last-requires : goal.older_unless_last-requires
older_unless_last-requires g c = c.self.invariant.linked.only c.args.b
    (got_in c.self.inside.entries.order c.args.at c.args.b (rw (← c.self.view_is) at c.requires))

pub returns-then-len-at-gt1 : goal.returns-then-len-at-gt1
returns-then-len-at-gt1 g c = let order = c.self.inside.entries.order in
    rw (← c.self.view_is) (record {
      next = next_place order c.args.at c.args.b c.older_unless_last.result
          c.self.invariant.linked.distinct (rw (← c.self.view_is) at c.requires)
          (omega (arith, c.if-len-at-gt1.true, c.len.ensures.len)) c.older_unless_last.ensures.older;
    })

pub returns-else-len-at-gt1 : goal.returns-else-len-at-gt1
returns-else-len-at-gt1 g c = rw (← c.self.view_is) (record {
  next = sym (slice_get_past c.self.inside.entries.order
      (c.args.at + 1) (omega (arith, c.if-len-at-gt1.false, c.len.ensures.len)));
})
