use Rattle.std.proofs.Common.{◌≡◌, ◌≤◌, ◌+◌, length}
use Rattle.lru_caches.specs.Pages.{dirty_numbers}
use Rattle.lru_caches.proofs.page_cache.flush.count_dirty.Given as goal

abbrev pub invariant-loop-page : goal.invariant-loop-page
invariant-loop-page g l = record {
  all : l.count + length (dirty_numbers l.page-iterator) ≡ length (dirty_numbers l.fn.map.pairs);
  fits : l.count + length l.page-iterator ≤ length l.fn.map.pairs;
}
