use Rattle.lru_caches.proofs.RetainedEntries.{retains-filter}
use Rattle.lru_caches.proofs.ordered_map.OrderedMap.retain.Goals as goal

pub returns : goal.returns
returns g c = rw (← c.self.view_is) (record { kept = retains-filter _ _ c.args.keep _ _ c.retain.ensures.step })
