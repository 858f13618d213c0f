use Rattle.lru_model.proofs.Theorems.GetOrInserts.{says_if_made, out_of_memory_if_made}
use Rattle.schnellru.proofs.map.LruMap.ensure_newest_fallible.Goals as goal

pub returns-clause-says : goal.returns-clause-says
returns-clause-says g c = says_if_made g.met.I.LookupKey.laws g.met.L.Insertion.laws c.show_map.ensures.distinct
    c.make_newest_if_made-answer.ensures

pub returns-clause-out_of_memory : goal.returns-clause-out_of_memory
returns-clause-out_of_memory g c = λ failed. out_of_memory_if_made failed c.make_newest_if_made-answer.ensures
