use Rattle.lru_caches.proofs.TakenEntries.{taken_last, last_goes}
use Rattle.lru_caches.proofs.ordered_map.into_entries.IntoEntriesDoubleEndedIterator.next_back.Goals as goal

pub returns-clause-steps : goal.returns-clause-steps
returns-clause-steps g c =
    let old = c.self.inside.map in
    rw (← c.self.view_is)
    (taken_last old c.pop_last.new.self c.pop_last.result c.pop_last.ensures.last c.pop_last.ensures.rest)

pub returns-clause-goes : goal.returns-clause-goes
returns-clause-goes g c =
    let old = c.self.inside.map in
    let left = c.pop_last.new.self in
    let taken = c.pop_last.result in
    rw (← c.self.view_is)
    (last_goes old left taken (taken_last old left taken c.pop_last.ensures.last c.pop_last.ensures.rest))
