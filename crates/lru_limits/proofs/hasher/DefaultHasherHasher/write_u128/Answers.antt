use Rattle.std.proofs.Common.{sym}
use Rattle.std.proofs.lemmas.Nat.{and_mask}
use Rattle.lru_limits.proofs.MixingLemmas.{written-le_bytes_16}
use Rattle.lru_limits.proofs.hasher.DefaultHasherHasher.write_u128.Goals as goal

pub returns : goal.returns
returns c =
    rw (c.join_word-2.ensures, c.join_word.ensures, and_mask c.args.i 64)
    (sym (written-le_bytes_16 c.args.self.now c.args.i c.ranges.i.fits))
