use Rattle.std.proofs.Common.{ap, ◌∙◌}
use Rattle.lru_limits.specs.Mixing.{written, closed}
use Rattle.lru_caches.specs.Checksums.{hash_of}
use Rattle.lru_caches.proofs.file_device.checksum.hash_of.Goals as goal

pub returns : goal.returns
unfolding hash_of
returns c = c.finish.ensures ∙ ap closed (c.write.ensures
    ∙ ap (λ h. written h c.args.bytes.now) (c.build_hasher-hasher.ensures ∙ c.with_seeds.ensures))
