use Rattle.std.proofs.Common.{reverse, sym, ap, ◌∙◌}
use Rattle.std.proofs.lemmas.Iterator.Adapters.{option_map_id}
use Rattle.lru_caches.proofs.TurnedEntries.{last-reverse, without_last-reverse}
use Rattle.lru_caches.proofs.ordered_map.OrderedMap.pop_last.Goals as goal

pub returns-clause-last : goal.returns-clause-last
returns-clause-last g c = rw (← c.self.view_is)
    (c.pop_newest.ensures.step.pair ∙ option_map_id _ ∙ sym (last-reverse c.self.inside.map.pairs))

pub returns-clause-rest : goal.returns-clause-rest
returns-clause-rest g c = rw (← c.self.view_is)
    (ap (λ st. reverse st.pairs) c.pop_newest.ensures.step.state.is
    ∙ sym (without_last-reverse c.self.inside.map.pairs))
