use Rattle.std.proofs.Common.{sym, ◌∙◌}
use Rattle.ordered_table.proofs.Tables.BucketPairs.{pairs-length}
use Rattle.schnellru.proofs.map.LruMap.len.Goals as goal

pub returns-clause-len : goal.returns-clause-len
returns-clause-len g c = rw (← c.self.view_is)
    (c.len.ensures.len ∙ sym (pairs-length c.self.inside.entries c.self.invariant.linked))
