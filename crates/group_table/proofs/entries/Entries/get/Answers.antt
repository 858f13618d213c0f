use Rattle.group_table.proofs.EntryLemmas.{held_there}
use Rattle.group_table.proofs.entries.Entries.get.Goals as goal

pub get-requires : goal.get-requires
get-requires g c = held_there _ _ c.in-Some.is c.self.invariant c.self.view_is c.requires
