use Rattle.std.proofs.Common.{rules}
use Rattle.lru_caches.proofs.PageOrder.{cleaned-each}
use Rattle.lru_caches.proofs.page_cache.flush.make_clean.Goals as goal

pub returns : goal.returns
returns g c =
    cleaned-each _ (λ f key value left k e. search rules) c.args.map.now.pairs c.for_each_mut.new.self.pairs _ _
    c.for_each_mut.ensures.step.each
