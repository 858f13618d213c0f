use Rattle.std.proofs.Common.{refl}
use Rattle.std.specs.Map.Iter.{deref_pair_mut}
use Rattle.schnellru.proofs.map.LruMap.write_at.Goals as goal

pub returns-clause-writes : goal.returns-clause-writes
returns-clause-writes g c =
    let lent = c.pair_at_mut-value.result in (
      deref_pair_mut lent,
      c.f.new.arg3,
      c.pair_at_mut-value.ensures.value,
      record {
        key = lent.0;
        value = lent.1;
        shows = (refl, refl);
        left = record lent.1 { now = c.f.new.arg3 };
        called = c.f.ensures;
        writes = refl;
      },
      refl,
    )
