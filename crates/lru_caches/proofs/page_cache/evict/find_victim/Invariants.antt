use Rattle.std.proofs.Common.{◌≡◌, length}
use Rattle.lru_caches.specs.Pages.{victim}
use Rattle.lru_caches.proofs.page_cache.evict.find_victim.Given as goal

abbrev pub invariant-loop-n : goal.invariant-loop-n
invariant-loop-n g l = victim l.keeps_dirty l.fn.map.pairs ≡ victim l.keeps_dirty l.pages

abbrev pub decreases-loop-n : goal.decreases-loop-n
decreases-loop-n g l = length l.pages
