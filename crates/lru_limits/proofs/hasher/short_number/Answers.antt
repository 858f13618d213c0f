use Rattle.std.proofs.Math.Facts.{Fits-lt-pow}
use Rattle.lru_limits.proofs.ByteLemmas.{word-of_4_to_7, word-of_1_to_3}
use Rattle.lru_limits.proofs.hasher.short_number.Goals as goal

pub returns-then-len-ge4 : goal.returns-then-len-ge4
returns-then-len-ge4 c =
    word-of_4_to_7 c.args.bytes.now c.from_le_bytes-first.result c.from_le_bytes-last.result
    (λ k. Fits-lt-pow (c.type_inv.bytes k)) c.if-len-ge4.true c.requires.few c.from_le_bytes-first.ensures
    c.from_le_bytes-last.ensures

pub returns-else-len-ge4 : goal.returns-else-len-ge4
returns-else-len-ge4 c = word-of_1_to_3 c.args.bytes.now
    (λ k. Fits-lt-pow (c.type_inv.bytes k)) c.requires.some c.if-len-ge4.false
