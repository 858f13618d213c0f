use Rattle.std.proofs.Common.{is_some, sym, ap, ◌∙◌}
use Rattle.lru_caches.proofs.TurnedEntries.{lookup-reverse}
use Rattle.lru_caches.proofs.ordered_map.OrderedMap.contains_key.Goals as goal

pub returns : goal.returns
returns g c =
    let key = c.args.key.now in
    rw (← c.self.view_is)
    (c.contains.ensures
    ∙ ap is_some (sym (lookup-reverse (g.Q.LookupKey.names key) (g.met.Q.LookupKey.laws.one key) c.self.inside.map.pairs
    c.distinct.ensures)))
