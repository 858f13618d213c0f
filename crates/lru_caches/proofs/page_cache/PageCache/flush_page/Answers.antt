use Rattle.std.proofs.Common.{◌≡◌, ◌≤◌, length, nat_eq, vec_capacity, Some, sym, ap, ◌∙◌, subst, arith}
use Rattle.std.specs.Map.{lookup}
use Rattle.lru_caches.specs.Pages.{cleaned_at, shown, block_or, AreClean, AreThere}
use Rattle.lru_caches.proofs.Blocks.{there-after}
use Rattle.lru_caches.proofs.SetPages.{length-cleaned_at, shown-cleaned_at, there-cleaned_at, clean-cleaned_at}
use Rattle.lru_caches.proofs.page_cache.PageCache.flush_page.Goals as goal

pub invariant_of-self-2 : goal.invariant_of-self-2
invariant_of-self-2 g c =
    let d = g.D.BlockDevice in
    let n = c.args.n in
    let pages = c.self.inside.map.pairs in
    let new = c.write_page.new.device in
    let is : cleaned_at n pages ≡ c.clean_page.new.map.pairs = sym c.clean_page.ensures in (
      subst (λ l. AreClean d l new) is
          (clean-cleaned_at d pages n new c.in_ok-write_page.ensures.written c.write_page.ensures.clean),
      subst (λ l. AreThere d l new) is (there-cleaned_at d pages n new
          (there-after d pages c.self.inside.device new c.write_page.ensures.serves.numbers c.self.invariant.1)),
      subst (λ l. length l ≤ c.self.inside.capacity) is (omega (arith, length-cleaned_at pages n, c.self.invariant.2)),
      c.self.invariant.3,
      subst (λ l. length l ≤ vec_capacity c.self.inside.numbers) is
          (omega (arith, length-cleaned_at pages n, c.self.invariant.4)),
    )

pub returns-clause-keeps : goal.returns-clause-keeps
returns-clause-keeps g c = λ good m block was.
    let d = g.D.BlockDevice in
    let n = c.args.n in
    let pages = c.self.inside.map.pairs in
    let new = c.write_page.new.device in
    ap (λ l. block_or d (lookup (nat_eq m) l) (d.blocks new m)) c.clean_page.ensures
    ∙ shown-cleaned_at d pages n m (d.blocks new m)
    ∙ c.write_page.ensures.shows m
    ∙ subst (λ v. shown d v m ≡ Some block) (sym c.self.view_is) was
