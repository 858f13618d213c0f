use Rattle.std.proofs.Common.{ap, sym, ◌∙◌, Some}
use Rattle.std.proofs.lemmas.Option.{same_Some}
use Rattle.ordered_table.proofs.Tables.PromotedOrders.{before_newest, before_past, before_kept}
use Rattle.ordered_table.proofs.ordered.promoted.newer_unless_first.Goals.{else-next-p-via-then-next-p+else-newest-p}
use Rattle.ordered_table.proofs.ordered.promoted.newer_unless_first.Goals.{else-next-p-via-else-next-p}
use Rattle.ordered_table.proofs.ordered.promoted.newer_unless_first.Goals as goal

pub returns-then-newest-b : goal.returns-then-newest-b
returns-then-newest-b g c =
    let linked = c.requires.linked in let full = rw c.in-Some.is at c.requires.promoted in
    rw c.in-Some.is (before_newest c.args.table.now.order linked.distinct c.in-Some.p (linked.all c.in-Some.p full)
    c.args.b (linked.all c.args.b c.requires.full) (c.newest.ensures.newest ∙ ap Some c.if-newest-b.true))

pub returns-then-newest-p : goal.returns-then-newest-p
returns-then-newest-p g c =
    let linked = c.requires.linked in let full = rw c.in-Some.is at c.requires.promoted in
    rw c.in-Some.is (before_past c.args.table.now.order linked.distinct c.in-Some.p (linked.all c.in-Some.p full)
    c.args.b (linked.all c.args.b c.requires.full)
    (λ e. c.if-newest-b.false (same_Some c.newest.result c.args.b (sym c.newest.ensures.newest ∙ e)))
    c.newer_unless_first-next.result c.newer_unless_first-next.ensures.newer c.if-next-p.true
    (λ e. c.if-newest-p.true (same_Some _ c.in-Some.p (sym c.newest-then-next-p.ensures.newest ∙ e)))
    _ c.newer_unless_first-then-newest-p.ensures.newer)

pub returns-else-next-p : goal.returns-else-next-p
returns-else-next-p g c =
    let linked = c.requires.linked in let full = rw c.in-Some.is at c.requires.promoted in
    rw c.in-Some.is (before_kept c.args.table.now.order linked.distinct c.in-Some.p (linked.all c.in-Some.p full)
    c.args.b (linked.all c.args.b c.requires.full)
    (λ e. c.if-newest-b.false (same_Some c.newest.result c.args.b (sym c.newest.ensures.newest ∙ e)))
    c.newer_unless_first-next.result c.newer_unless_first-next.ensures.newer
    (λ same. elim c.else-next-p.branch [
      | else-next-p-via-then-next-p+else-newest-p w ↦ w.newest-then-next-p.ensures.newest ∙ ap Some w.if-newest-p.false
      | else-next-p-via-else-next-p w ↦ absurd (w.if-next-p.false same)
    ]))
