use Rattle.std.proofs.Common.{reverse, option_map, sym, ap, ◌∙◌}
use Rattle.std.proofs.lemmas.Iterator.Adapters.{option_map_id}
use Rattle.lru_model.proofs.CallerLemmas.{lookup-entry}
use Rattle.lru_caches.proofs.TurnedEntries.{lookup-reverse, without-reverse}
use Rattle.lru_caches.proofs.ordered_map.OrderedMap.remove.Goals as goal

pub returns-clause-value : goal.returns-clause-value
returns-clause-value g c =
    let key = c.args.key.now in
    let names = g.Q.LookupKey.names key in
    let pairs = c.self.inside.map.pairs in
    rw (← c.self.view_is)
    (c.remove.ensures.step.value ∙ ap (option_map (λ p. p.1)) (option_map_id _) ∙ sym (lookup-entry names pairs)
    ∙ sym (lookup-reverse names (g.met.Q.LookupKey.laws.one key) pairs c.distinct.ensures))

pub returns-clause-entries : goal.returns-clause-entries
returns-clause-entries g c =
    let key = c.args.key.now in
    let names = g.Q.LookupKey.names key in
    rw (← c.self.view_is)
    (ap (λ st. reverse st.pairs) c.remove.ensures.step.state.is
    ∙ sym (without-reverse names (g.met.Q.LookupKey.laws.one key) c.self.inside.map.pairs c.distinct.ensures))
