use Rattle.std.proofs.Common.{◌≡◌, ℕ, take}
use Rattle.std.specs.List.{All}
use Rattle.lru_caches.specs.Pages.{block_at, AreClean, AreWritten, CrashAdds, Serves}
use Rattle.lru_caches.proofs.DirtyPages.{IsBack}
use Rattle.lru_caches.proofs.page_cache.flush.write_each_back.Given as goal

abbrev pub invariant-loop-n : goal.invariant-loop-n
invariant-loop-n g l = record {
  clean : AreClean g.D.BlockDevice l.fn.map.pairs l.device;
  shows : (n : ℕ) → block_at g.D.BlockDevice l.fn.map.pairs l.device n
      ≡ block_at g.D.BlockDevice l.fn.map.pairs l.fn.device n;
  crash : CrashAdds g.D.BlockDevice l.fn.map.pairs l.fn.device l.device;
  serves : Serves g.D.BlockDevice l.fn.device l.device;
  calm : g.D.BlockDevice.faults l.device ≡ g.D.BlockDevice.faults l.fn.device;
  back : All (IsBack g.D.BlockDevice l.fn.map.pairs l.device) (take l.n-index l.numbers);
  order : AreWritten g.D.BlockDevice (take l.n-index l.numbers) l.fn.map.pairs l.fn.device l.device;
}
