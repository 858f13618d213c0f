use Rattle.std.proofs.Common.{◌≡◌, Some, refl, sym, ap, ◌∙◌, subst, vec_capacity}
use Rattle.lru_caches.specs.Pages.{shown, IsGood}
use Rattle.lru_caches.proofs.FirstPages.{first-holds, first-shown}
use Rattle.lru_caches.proofs.page_cache.PageCache.pin.Goals as goal

pub invariant_of-self : goal.invariant_of-self
invariant_of-self g c =
    let it = c.self.inside in
    let (block, shows, is) = c.in_ok-bring.ensures.page in
    let here = ap (λ v. v.pages) c.self.view_is ∙ is in
    first-holds g.D.BlockDevice it.device c.args.n _ _ _ it.map.pairs c.pin_newest.new.map.pairs here
    (c.pin_newest.ensures _ _ _ here) it.capacity (vec_capacity it.numbers) (λ e. (e, refl)) c.self.invariant

pub returns-clause-keeps : goal.returns-clause-keeps
returns-clause-keeps g c = λ good m block was.
    let d = g.D.BlockDevice in
    let it = c.self.inside in
    let (given, shows, is) = c.in_ok-bring.ensures.page in
    let here = ap (λ v. v.pages) c.self.view_is ∙ is in
    let kept = subst (λ v. IsGood d v.device → shown d v m ≡ Some block) (sym c.self.view_is)
    (λ it. c.bring.ensures.keeps it m block was) in
    first-shown d it.device c.args.n _ _ _ it.map.pairs c.pin_newest.new.map.pairs here
    (c.pin_newest.ensures _ _ _ here) refl m ∙ kept good
