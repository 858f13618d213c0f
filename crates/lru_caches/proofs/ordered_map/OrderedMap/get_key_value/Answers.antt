use Rattle.std.proofs.Common.{sym, ◌∙◌}
use Rattle.lru_caches.proofs.TurnedEntries.{entry-reverse}
use Rattle.lru_caches.proofs.ordered_map.OrderedMap.get_key_value.Goals as goal

pub returns : goal.returns
returns g c =
    let key = c.args.key.now in
    rw (← c.self.view_is)
    (c.peek_key_value.ensures
    ∙ sym (entry-reverse (g.Q.LookupKey.names key) (g.met.Q.LookupKey.laws.one key) c.self.inside.map.pairs
    c.distinct.ensures))
