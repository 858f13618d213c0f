use Rattle.group_table.proofs.EntryLemmas.{held_there}
use Rattle.group_table.proofs.entries.Entries.get_mut.Goals as goal

pub get_mut-requires : goal.get_mut-requires
get_mut-requires g c =
    rw c.in-Some.is (held_there _ _ c.in-Some.is c.self.invariant c.self.view_is c.requires)
