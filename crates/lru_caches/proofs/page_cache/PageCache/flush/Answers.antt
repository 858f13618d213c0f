use Rattle.std.proofs.Common.{◌≡◌, ◌≤◌, length, nat_eq, vec_capacity, Some, sym, ap, ◌∙◌, subst, arith}
use Rattle.std.specs.Map.{lookup}
use Rattle.lru_caches.specs.Pages.{cleaned, shown, block_or, AreClean, AreThere}
use Rattle.lru_caches.proofs.Blocks.{clean-cleaned, there-cleaned, shown-cleaned}
use Rattle.lru_caches.proofs.PageOrder.{length-cleaned}
use Rattle.lru_caches.proofs.page_cache.PageCache.flush.Goals as goal

pub invariant_of-self-2 : goal.invariant_of-self-2
invariant_of-self-2 g c =
    let d = g.D.BlockDevice in
    let pages = c.self.inside.map.pairs in
    let new = c.write_all_back.new.device in
    let is : cleaned pages ≡ c.make_clean.new.map.pairs = sym c.make_clean.ensures in (
      subst (λ l. AreClean d l new) is (clean-cleaned d pages c.self.inside.device new c.in_ok-write_all_back.ensures.written),
      subst (λ l. AreThere d l new) is (there-cleaned d pages new c.write_all_back.ensures.there),
      subst (λ l. length l ≤ c.self.inside.capacity) is
          (subst (λ k. k ≤ c.self.inside.capacity) (sym (length-cleaned pages)) c.self.invariant.2),
      c.self.invariant.3,
      subst (λ l. length l ≤ vec_capacity c.list_dirty.new.numbers) is
          (omega (arith, length-cleaned pages, c.self.invariant.4, c.list_dirty.ensures.keeps)),
    )

pub returns-clause-keeps : goal.returns-clause-keeps
returns-clause-keeps g c = λ good n block was.
    let d = g.D.BlockDevice in
    let pages = c.self.inside.map.pairs in
    let new = c.write_all_back.new.device in
    ap (λ l. block_or d (lookup (nat_eq n) l) (d.blocks new n)) c.make_clean.ensures
    ∙ shown-cleaned d pages n (d.blocks new n)
    ∙ c.write_all_back.ensures.shows good.0 n
    ∙ subst (λ v. shown d v n ≡ Some block) (sym c.self.view_is) was
