use Rattle.group_table.proofs.EntryLemmas.{held_there}
use Rattle.group_table.proofs.entries.Entries.read.Goals as goal

pub read-requires : goal.read-requires
read-requires g c = held_there _ _ c.in-Some.is c.self.invariant c.self.view_is c.requires
