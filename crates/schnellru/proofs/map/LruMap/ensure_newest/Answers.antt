use Rattle.lru_model.proofs.Theorems.GetOrInserts.{makes_says, newest_out_of_memory}
use Rattle.lru_model.proofs.Theorems.OutOfMemory.{on_err}
use Rattle.schnellru.proofs.map.LruMap.ensure_newest.Goals as goal

pub returns-clause-says : goal.returns-clause-says
returns-clause-says g c = makes_says g.met.I.LookupKey.laws g.met.L.Insertion.laws c.show_map.ensures.distinct
    c.make_newest-answer.ensures

pub returns-clause-out_of_memory : goal.returns-clause-out_of_memory
returns-clause-out_of_memory g c = on_err _ (λ failed. newest_out_of_memory failed c.make_newest-answer.ensures)
