use Rattle.std.proofs.Common.{◌≡◌, ◌≤◌, length, slice_get, None, sym, ◌∙◌, arith}
use Rattle.std.proofs.lemmas.Option.{slice_get_past}
use Rattle.ordered_table.specs.OrderedTable.{pairs_of}
use Rattle.ordered_table.proofs.Tables.BucketPairs.{all_full, pairs-length}
use Rattle.ordered_table.proofs.Tables.Places.{get_none, pair_at}
use Rattle.schnellru.proofs.map.LruMap.get_index.Goals as goal

pub returns-in_err-at_index : goal.returns-in_err-at_index
returns-in_err-at_index g c =
    let t = c.self.inside.entries in
    let none : slice_get t.order c.args.index ≡ None = sym c.at_index.ensures.at ∙ c.in_err-at_index.was in
    let past : length (pairs_of t) ≤ c.args.index =
    omega (arith, pairs-length t c.self.invariant.linked, get_none t.order c.args.index none) in
    rw (c.from_residual.ensures, ← c.self.view_is) (sym (slice_get_past (pairs_of t) c.args.index past))

pub returns : goal.returns
returns g c =
    let t = c.self.inside.entries in
    rw (← c.self.view_is)
    (sym (pair_at t.slots t.order c.args.index c.in_ok-at_index.field-0 _
    (all_full t.slots t.order c.self.invariant.linked.only) (sym c.at_index.ensures.at ∙ c.in_ok-at_index.was)
    c.pair.ensures.pair))
