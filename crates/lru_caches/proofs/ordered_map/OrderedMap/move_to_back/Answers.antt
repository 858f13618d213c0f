use Rattle.std.proofs.Common.{is_some, reverse, sym, ap, ◌∙◌}
use Rattle.lru_caches.proofs.TurnedEntries.{lookup-reverse, front-reverse}
use Rattle.lru_caches.proofs.ordered_map.OrderedMap.move_to_back.Goals as goal

pub returns-clause-there : goal.returns-clause-there
returns-clause-there g c =
    let key = c.args.key.now in
    rw (← c.self.view_is)
    (c.promote.ensures.there
    ∙ ap is_some (sym (lookup-reverse (g.Q.LookupKey.names key) (g.met.Q.LookupKey.laws.one key) c.self.inside.map.pairs
    c.distinct.ensures)))

pub returns-clause-entries : goal.returns-clause-entries
returns-clause-entries g c =
    let key = c.args.key.now in
    let names = g.Q.LookupKey.names key in
    rw (← c.self.view_is)
    (ap (λ st. reverse st.pairs) c.promote.ensures.promoted
    ∙ front-reverse names (g.met.Q.LookupKey.laws.one key) c.self.inside.map.pairs c.distinct.ensures)
