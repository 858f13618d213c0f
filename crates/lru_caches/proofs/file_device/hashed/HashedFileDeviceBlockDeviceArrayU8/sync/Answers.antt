use Rattle.std.proofs.Common.{◌-◌, is_ok, take, subst}
use Rattle.lru_caches.specs.Files.{left, IsLeft}
use Rattle.lru_caches.specs.LeftLemma.{synced_leaves}
use Rattle.lru_caches.proofs.file_device.hashed.HashedFileDeviceBlockDeviceArrayU8.sync.Goals as goal

pub returns-clause-crash : goal.returns-clause-crash
returns-clause-crash g c = λ m b is.
    synced_leaves (take (g.row.N - 8)) c.args.self.now.file.log.events m (is_ok c.sync-synced.result) b
    (subst (λ l. IsLeft (take (g.row.N - 8)) (left l m) b) c.sync-synced.ensures is)

pub returns-clause-gives : goal.returns-clause-gives
returns-clause-gives g c = (_, c.sync-synced.ensures)
