use Rattle.std.proofs.Common.{reverse, sym, ap, ◌∙◌}
use Rattle.std.proofs.lemmas.Iterator.Adapters.{option_map_id}
use Rattle.lru_caches.proofs.TurnedEntries.{first-reverse, without_first-reverse}
use Rattle.lru_caches.proofs.ordered_map.OrderedMap.pop_first.Goals as goal

pub returns-clause-first : goal.returns-clause-first
returns-clause-first g c = rw (← c.self.view_is)
    (c.pop_oldest.ensures.step.pair ∙ option_map_id _ ∙ sym (first-reverse c.self.inside.map.pairs))

pub returns-clause-rest : goal.returns-clause-rest
returns-clause-rest g c = rw (← c.self.view_is)
    (ap (λ st. reverse st.pairs) c.pop_oldest.ensures.step.state.is
    ∙ sym (without_first-reverse c.self.inside.map.pairs))
