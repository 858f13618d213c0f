use Rattle.std.proofs.Common.{refl}
use Rattle.std.specs.Map.Iter.{deref_pair}
use Rattle.ordered_table.proofs.Tables.BucketPairs.{all_full}
use Rattle.ordered_table.proofs.Tables.Places.{got_in, pair_at}
use Rattle.schnellru.proofs.map.LruMap.passes.Goals as goal

pub pair-requires : goal.pair-requires
pair-requires g c = c.self.invariant.linked.only c.args.b
    (got_in c.self.inside.entries.order c.args.at c.args.b (rw (← c.self.view_is) at c.requires.at))

pub returns-clause-asked : goal.returns-clause-asked
returns-clause-asked g c =
    let p = deref_pair c.pair.result in let t = c.self.inside.entries in (
      p,
      rw (← c.self.view_is) (pair_at t.slots t.order c.args.at c.args.b p
          (all_full t.slots t.order c.self.invariant.linked.only) (rw (← c.self.view_is) at c.requires.at)
          c.pair.ensures.pair),
      record { key = _; value = _; shows = (refl, refl); called = c.keep.ensures },
    )
