use Rattle.std.proofs.Common.{sym, ◌∙◌}
use Rattle.lru_caches.proofs.TurnedEntries.{last-reverse}
use Rattle.lru_caches.proofs.ordered_map.OrderedMap.last.Goals as goal

pub returns : goal.returns
returns g c = rw (← c.self.view_is) (c.peek_newest.ensures ∙ sym (last-reverse c.self.inside.map.pairs))
