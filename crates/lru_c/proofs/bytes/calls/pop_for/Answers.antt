use Rattle.std.proofs.Common.{sym}
use Rattle.lru_c.specs.Bytes.PopsFor.{pops}
use Rattle.lru_c.proofs.RoomyPuts.{oldest_other}
use Rattle.lru_c.proofs.bytes.calls.pop_for.Goals as goal

pub returns : goal.returns
returns c =
    let must = sym c.if-not-must_evict.ensures in
    let (pair, other, oldest) = oldest_other c.args.own.now c.args.map.now c.args.value_len must in
    pops must pair other oldest (rw c.promote.ensures.promoted at c.pop_oldest.ensures)
