use Rattle.std.proofs.Common.{◌≡◌, suc, ◌+◌, Some, ap, sym, ◌∙◌, slice_get, arith}
use Rattle.std.specs.Prelude.{slice_index_or}
use Rattle.std.proofs.lemmas.Option.{slice_get-get_or}
use Rattle.ordered_table.proofs.Tables.Places.{got_in, after_at}
use Rattle.ordered_table.proofs.ordered.OrderedTable.at_index.Goals as goal

pub links-preserved : goal.links-preserved
links-preserved g c =
    let order = c.args.self.now.order in let n = c.links.counter in let at = c.links.at in
    let next : suc n ≡ n + 1 = omega arith in
    let there : slice_get order (suc n) ≡ Some (slice_index_or order (suc n) at) = slice_get-get_or order (suc n) at
    (omega (arith, c.links-test.true, c.if-index-len.false, c.len.ensures.len)) in
    let is = c.older_unless_last-at.ensures.older (slice_index_or order (suc n) at)
    (after_at order n at c.len.ensures.linked.distinct c.links.invariant ∙ there) in
    ap (slice_get order) (sym next) ∙ there ∙ ap Some (sym is)

pub returns-clause-full : goal.returns-clause-full
returns-clause-full g c = c.len.ensures.linked.only c.links.at
    (got_in c.args.self.now.order c.links.counter c.links.at c.links.invariant)
