use Rattle.std.proofs.Common.{◌≡◌, Some, sym, ap, ◌∙◌, subst, unwrap_or, vec_capacity}
use Rattle.std.proofs.lemmas.Bool.{true≢false}
use Rattle.lru_caches.specs.Pages.{shown, IsGood}
use Rattle.lru_caches.proofs.FirstPages.{first-holds, first-is, first-others}
use Rattle.lru_caches.proofs.page_cache.PageCache.write_with.Goals as goal

pub invariant_of-self : goal.invariant_of-self
invariant_of-self g c =
    let it = c.self-2.inside in
    let (block, shows, is) = c.in_ok-bring.ensures.page in
    let here = ap (λ v. v.pages) c.self-2.view_is ∙ is in
    let (left, called, wrote) = c.write_newest.ensures _ _ _ here in
    first-holds g.D.BlockDevice it.device c.args.n _ _ _ it.map.pairs c.write_newest.new.map.pairs here wrote
    it.capacity (vec_capacity it.numbers) (λ e. absurd (true≢false e)) c.self-2.invariant

pub returns-clause-written : goal.returns-clause-written
returns-clause-written g c =
    let d = g.D.BlockDevice in
    let n = c.args.n in
    let it = c.self-2.inside in
    let (block, shows, is) = c.in_ok-bring.ensures.page in
    let here = ap (λ v. v.pages) c.self-2.view_is ∙ is in
    let (left, called, wrote) = c.write_newest.ensures _ _ _ here in (
      block,
      left,
      called,
      λ good b was. let now = subst (λ v. IsGood d v.device) c.self-2.view_is good in
          ap (λ o. unwrap_or o b) (sym (c.bring.ensures.keeps now n b was) ∙ shows now.1),
      first-is d it.device n _ _ c.write_newest.new.map.pairs wrote,
      wrote,
    )

pub returns-clause-others : goal.returns-clause-others
returns-clause-others g c = λ good m b apart was.
    let d = g.D.BlockDevice in
    let it = c.self-2.inside in
    let (block, shows, is) = c.in_ok-bring.ensures.page in
    let here = ap (λ v. v.pages) c.self-2.view_is ∙ is in
    let (left, called, wrote) = c.write_newest.ensures _ _ _ here in
    let kept = subst (λ v. IsGood d v.device → shown d v m ≡ Some b) (sym c.self-2.view_is)
    (λ it. c.bring.ensures.keeps it m b was) in
    first-others d it.device c.args.n _ _ _ it.map.pairs c.write_newest.new.map.pairs here wrote m apart ∙ kept good
