use Rattle.std.proofs.Common.{reverse, sym, ap, ◌∙◌}
use Rattle.std.proofs.lemmas.Iterator.Adapters.{option_map_id}
use Rattle.lru_caches.proofs.TurnedEntries.{entry-reverse, without-reverse}
use Rattle.lru_caches.proofs.ordered_map.OrderedMap.remove_entry.Goals as goal

pub returns-clause-entry : goal.returns-clause-entry
returns-clause-entry g c =
    let key = c.args.key.now in
    let names = g.Q.LookupKey.names key in
    let pairs = c.self.inside.map.pairs in
    rw (← c.self.view_is)
    (c.remove_entry.ensures.step.pair ∙ option_map_id _
    ∙ sym (entry-reverse names (g.met.Q.LookupKey.laws.one key) pairs c.distinct.ensures))

pub returns-clause-entries : goal.returns-clause-entries
returns-clause-entries g c =
    let key = c.args.key.now in
    let names = g.Q.LookupKey.names key in
    rw (← c.self.view_is)
    (ap (λ st. reverse st.pairs) c.remove_entry.ensures.step.state.is
    ∙ sym (without-reverse names (g.met.Q.LookupKey.laws.one key) c.self.inside.map.pairs c.distinct.ensures))
