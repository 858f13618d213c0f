use Rattle.std.proofs.Common.{ap, sym, ◌∙◌}
use Rattle.lru_model.specs.Lists.{last_of}
use Rattle.ordered_table.proofs.Tables.BucketPairs.{pairs-length}
use Rattle.ordered_table.proofs.Tables.Places.{first_at, last_at}
use Rattle.schnellru.proofs.map.LruMap.ends.Goals as goal

pub returns-clause-newest : goal.returns-clause-newest
returns-clause-newest g c =
    rw (← c.self.view_is) (sym c.newest.ensures.newest ∙ first_at c.self.inside.entries.order)

pub returns-clause-oldest : goal.returns-clause-oldest
returns-clause-oldest g c =
    let t = c.self.inside.entries in
    rw (← c.self.view_is) (sym c.oldest.ensures.oldest ∙ last_at t.order
    ∙ ap (λ n. last_of n t.order) (sym (pairs-length t c.self.invariant.linked)))

pub returns-clause-places : goal.returns-clause-places
returns-clause-places g c = rw (← c.self.view_is) (sym (pairs-length c.self.inside.entries c.self.invariant.linked))
