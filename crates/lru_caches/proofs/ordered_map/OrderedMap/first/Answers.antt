use Rattle.std.proofs.Common.{sym, ◌∙◌}
use Rattle.lru_caches.proofs.TurnedEntries.{first-reverse}
use Rattle.lru_caches.proofs.ordered_map.OrderedMap.first.Goals as goal

pub returns : goal.returns
returns g c = rw (← c.self.view_is) (c.peek_oldest.ensures ∙ sym (first-reverse c.self.inside.map.pairs))
