use Rattle.std.proofs.Common.{sym, ◌∙◌}
use Rattle.ordered_table.proofs.Tables.BucketPairs.{newest_full, newest_is}
use Rattle.schnellru.proofs.Maps.NewestPair.{none_newest}
use Rattle.schnellru.proofs.map.LruMap.peek_newest.Goals as goal

pub returns-then-is_empty : goal.returns-then-is_empty
returns-then-is_empty g c =
    sym (none_newest c.args.self.now.pairs (sym c.is_empty.ensures ∙ c.if-is_empty.true)).first

pub pair-requires : goal.pair-requires
pair-requires g c = newest_full c.self.inside.entries c.self.invariant.linked c.newest.result
    c.newest.ensures.newest

pub returns : goal.returns
returns g c = rw (← c.self.view_is)
    (sym (newest_is c.self.inside.entries c.self.invariant.linked c.newest.result c.newest.ensures.newest _
    c.pair.ensures.pair))
