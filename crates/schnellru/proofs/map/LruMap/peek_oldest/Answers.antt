use Rattle.std.proofs.Common.{sym}
use Rattle.ordered_table.proofs.Tables.BucketPairs.{oldest_full, oldest_is}
use Rattle.schnellru.proofs.map.LruMap.peek_oldest.Goals as goal

pub pair-requires : goal.pair-requires
pair-requires g c = oldest_full c.self.inside.entries c.self.invariant.linked c.oldest.result
    c.oldest.ensures.oldest

pub returns : goal.returns
returns g c = rw (← c.self.view_is)
    (sym (oldest_is c.self.inside.entries c.self.invariant.linked c.oldest.result c.oldest.ensures.oldest _
    c.pair.ensures.pair))
