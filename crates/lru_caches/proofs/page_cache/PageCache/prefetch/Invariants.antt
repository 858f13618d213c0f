use Rattle.std.proofs.Common.{◌≡◌, ◌⊎◌, ◌-◌, ◌≤◌}
use Rattle.lru_caches.specs.Pages.{ReadsPages, ShowsTheSame}
use Rattle.lru_caches.proofs.page_cache.PageCache.prefetch.Given as goal

abbrev pub invariant-loop-n : goal.invariant-loop-n
invariant-loop-n g l = record {
  from : l.fn.blocks.start ≤ l.n;
  to : (l.n ≤ l.fn.blocks.end) ⊎ (l.n ≡ l.fn.blocks.start);
  reads : ReadsPages g.D.BlockDevice l.fn.blocks.start (l.n - l.fn.blocks.start) l.fn.self l.self;
  keeps : ShowsTheSame g.D.BlockDevice l.fn.self l.self;
  capacity : l.self.capacity ≡ l.fn.self.capacity;
  mode : l.self.keeps_dirty ≡ l.fn.self.keeps_dirty;
}
