use Rattle.std.proofs.Common.{sym}
use Rattle.ordered_table.proofs.Tables.WalkRests.{rest-length}
use Rattle.ordered_table.proofs.walk.WalkExactSizeIterator.len.Goals as goal

pub returns-clause-value : goal.returns-clause-value
returns-clause-value g c = rw (← c.self.view_is)
    (sym (rest-length c.self.inside.entries.now c.self.inside.front c.self.inside.back c.self.inside.left
    c.self.invariant))
