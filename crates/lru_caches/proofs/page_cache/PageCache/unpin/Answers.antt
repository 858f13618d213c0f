use Rattle.std.proofs.Common.{sym, ap, ◌∙◌, subst, vec_capacity}
use Rattle.lru_caches.specs.Pages.{block_at}
use Rattle.lru_caches.proofs.FirstPages.{Holds, unpinned-holds, unpinned-shown}
use Rattle.lru_caches.proofs.page_cache.PageCache.unpin.Goals as goal

pub invariant_of-self : goal.invariant_of-self
invariant_of-self g c =
    let d = g.D.BlockDevice in
    let it = c.self.inside in
    subst (Holds d it.device it.capacity (vec_capacity it.numbers)) (sym c.unpin_page.ensures.unpinned)
    (unpinned-holds d it.device c.args.n it.map.pairs it.capacity (vec_capacity it.numbers) c.self.invariant)

pub returns-clause-shows : goal.returns-clause-shows
returns-clause-shows g c = λ m.
    let d = g.D.BlockDevice in
    let it = c.self.inside in
    rw (← c.self.view_is) (ap (λ l. block_at d l it.device m) c.unpin_page.ensures.unpinned
    ∙ unpinned-shown d it.device c.args.n it.map.pairs m)
