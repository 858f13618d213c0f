use Rattle.std.proofs.Common.{sym, ◌∙◌}
use Rattle.lru_caches.proofs.TurnedEntries.{lookup-reverse}
use Rattle.lru_caches.proofs.ordered_map.OrderedMap.get.Goals as goal

pub returns : goal.returns
returns g c =
    let key = c.args.key.now in
    rw (← c.self.view_is)
    (c.peek.ensures
    ∙ sym (lookup-reverse (g.Q.LookupKey.names key) (g.met.Q.LookupKey.laws.one key) c.self.inside.map.pairs
    c.distinct.ensures))
