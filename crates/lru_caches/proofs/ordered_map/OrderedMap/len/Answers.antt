use Rattle.lru_caches.proofs.TurnedEntries.{distinct-reverse}
use Rattle.lru_caches.proofs.ordered_map.OrderedMap.len.Goals as goal

pub returns-clause-distinct : goal.returns-clause-distinct
returns-clause-distinct g c = rw (← c.self.view_is)
    (distinct-reverse g.met.K.Eq.laws c.self.inside.map.pairs c.len.ensures.map.distinct)
