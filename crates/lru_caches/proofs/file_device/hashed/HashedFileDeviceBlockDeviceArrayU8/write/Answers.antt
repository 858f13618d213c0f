use Rattle.std.proofs.Common.{◌≡◌, ◌∷◌, cond, is_ok, refl, subst}
use Rattle.lru_caches.specs.Files.{written, unwritten}
use Rattle.lru_caches.proofs.file_device.hashed.HashedFileDeviceBlockDeviceArrayU8.write.Goals as goal

pub returns-clause-gives : goal.returns-clause-gives
returns-clause-gives g c = (
  is_ok c.write_block.result,
  c.args.block.now,
  refl,
  subst (λ l. c.write_block.new.self.log.events
      ≡ cond (is_ok c.write_block.result) (written c.args.n l) (unwritten c.args.n l) ∷ c.args.self.now.file.log.events)
      c.with_checksum-stamped.ensures c.write_block.ensures,
)
