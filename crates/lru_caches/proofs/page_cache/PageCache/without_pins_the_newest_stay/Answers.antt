use Rattle.std.proofs.Common.{◌≡◌, ◌∷◌, nat_eq, take, sym, subst}
use Rattle.lru_model.specs.Lists.{without}
use Rattle.lru_caches.specs.Pages.{with_room}
use Rattle.lru_caches.proofs.NewestPages.{newest_stay}
use Rattle.lru_caches.proofs.page_cache.PageCache.without_pins_the_newest_stay.Goals as goal

pub returns : goal.returns
returns g c =
    let it = c.self.inside in
    rw (← c.self.view_is) (λ plain free n page.
    let others = without (nat_eq n) it.map.pairs in
    subst (λ k. (n, page) ∷ with_room it.capacity k others ≡ take it.capacity ((n, page) ∷ others)) (sym plain)
    (newest_stay it.capacity n page it.map.pairs c.len.ensures.map.distinct c.self.invariant.2 c.self.invariant.3 free))
