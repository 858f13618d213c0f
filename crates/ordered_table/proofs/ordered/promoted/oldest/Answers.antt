use Rattle.std.proofs.Common.{ap, sym, ◌∙◌, Some}
use Rattle.std.proofs.lemmas.Option.{same_Some}
use Rattle.ordered_table.proofs.Tables.PromotedOrders.{oldest_past, oldest_alone, oldest_kept}
use Rattle.ordered_table.proofs.ordered.promoted.oldest.Goals as goal

pub returns-then-newest-p : goal.returns-then-newest-p
returns-then-newest-p g c =
    let linked = c.requires.linked in let full = rw c.in-Some.is at c.requires.promoted in
    rw c.in-Some.is (oldest_alone c.args.table.now.order linked.distinct c.in-Some.p (linked.all c.in-Some.p full)
    (c.oldest-b.ensures.oldest ∙ ap Some (sym c.if-p-b.true)) (c.newest.ensures.newest ∙ ap Some c.if-newest-p.true))

pub returns-else-newest-p : goal.returns-else-newest-p
returns-else-newest-p g c =
    let linked = c.requires.linked in let full = rw c.in-Some.is at c.requires.promoted in
    rw c.in-Some.is (oldest_past c.args.table.now.order linked.distinct c.in-Some.p (linked.all c.in-Some.p full)
    (c.oldest-b.ensures.oldest ∙ ap Some (sym c.if-p-b.true))
    (λ e. c.if-newest-p.false (same_Some c.newest.result c.in-Some.p (sym c.newest.ensures.newest ∙ e)))
    c.newer_unless_first.result c.newer_unless_first.ensures.newer)

pub returns-in_default : goal.returns-in_default
returns-in_default g c =
    let linked = c.requires.linked in let full = rw c.in-Some.is at c.requires.promoted in
    rw c.in-Some.is (oldest_kept c.args.table.now.order linked.distinct c.in-Some.p (linked.all c.in-Some.p full)
    c.oldest-b.result c.oldest-b.ensures.oldest c.if-p-b.false)
