use Rattle.std.proofs.Common.{nat_eq, subst}
use Rattle.std.proofs.lemmas.Cmp.{nat_eq_equiv}
use Rattle.std.proofs.lemmas.List.Sorted.{IsNonDecreasingBy-from_sort, All-permutation}
use Rattle.std.proofs.lemmas.Map.Keys.{IsDistinct-IsPermutation, IsStrictlyIncreasing-from_distinct}
use Rattle.std.proofs.lemmas.Map.Made.{IsDistinct-keys_filter}
use Rattle.std.specs.List.Sorted.{IsPermutation}
use Rattle.lru_caches.specs.Pages.{dirty_numbers}
use Rattle.lru_caches.proofs.DirtyPages.{IsDirtyAt, all_dirty}
use Rattle.lru_caches.proofs.page_cache.flush.list_dirty.Goals as goal

pub returns-clause-all : goal.returns-clause-all
returns-clause-all g c =
    subst (λ l. IsPermutation l c.sort_unstable.new.self.items) c.collect_dirty.ensures.all c.sort_unstable.ensures.permutation

pub returns-clause-sorted : goal.returns-clause-sorted
returns-clause-sorted g c =
    let pages = c.args.map.now.pairs in
    let numbers = c.sort_unstable.new.self.items in
    IsStrictlyIncreasing-from_distinct numbers (IsNonDecreasingBy-from_sort (λ x. x) numbers c.sort_unstable.ensures.sorted)
    (IsDistinct-IsPermutation nat_eq nat_eq_equiv.symm (dirty_numbers pages) numbers
    (subst (λ l. IsPermutation l numbers) c.collect_dirty.ensures.all c.sort_unstable.ensures.permutation)
    (IsDistinct-keys_filter nat_eq (λ p. p.1.is_dirty) pages c.collect_dirty.ensures.distinct))

pub returns-clause-dirty : goal.returns-clause-dirty
returns-clause-dirty g c =
    let pages = c.args.map.now.pairs in
    let numbers = c.sort_unstable.new.self.items in
    All-permutation (IsDirtyAt pages) (dirty_numbers pages) numbers
    (subst (λ l. IsPermutation l numbers) c.collect_dirty.ensures.all c.sort_unstable.ensures.permutation)
    (all_dirty pages c.collect_dirty.ensures.distinct)
