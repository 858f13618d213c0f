use Rattle.std.proofs.Common.{subst, sym, ◌<◌, ◌^◌}
use Rattle.ordered_table.proofs.Tables.BucketPairs.{pairs-length}
use Rattle.schnellru.proofs.map.LruMap.iter.Goals as goal

pub returns-clause-fits : goal.returns-clause-fits
returns-clause-fits g c = rw (← c.self.view_is)
    (subst (λ n. n < 2 ^ 64) (sym (pairs-length c.self.inside.entries c.iter.ensures.linked)) c.iter.ensures.fits)
