use Rattle.std.proofs.Common.{ap, sym, ◌∙◌}
use Rattle.ordered_table.proofs.Tables.BucketPairs.{pairs-length}
use Rattle.schnellru.proofs.map.LruMap.is_over_the_limit.Goals as goal

pub returns : goal.returns
returns g c =
    let m = c.self.inside in
    rw (← c.self.view_is) (c.is_over_the_limit.ensures ∙ ap (g.L.Limiter.rules.is_over_the_limit m.limiter)
    (c.len.ensures.len ∙ sym (pairs-length m.entries c.self.invariant.linked)))
