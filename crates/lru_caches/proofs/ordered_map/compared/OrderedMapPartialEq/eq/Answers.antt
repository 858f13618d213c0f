use Rattle.std.proofs.Common.{◌&&◌, sym, ◌∙◌}
use Rattle.lru_caches.proofs.TurnedEntries.{pointwise-reverse}
use Rattle.lru_caches.proofs.ordered_map.compared.OrderedMapPartialEq.eq.Goals as goal

pub returns : goal.returns
returns g c =
    rw (← c.self.view_is)
    (rw (← c.other.view_is)
    (c.eq.ensures
    ∙ sym (pointwise-reverse (λ p q. g.K.PartialEq.eq p.0 q.0 && g.V.PartialEq.eq p.1 q.1) c.self.inside.map.pairs
    c.other.inside.map.pairs)))
