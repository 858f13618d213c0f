use Rattle.std.proofs.Common.{Some, ap, sym, ◌∙◌}
use Rattle.ordered_table.proofs.Tables.PromotedOrders.{LeadsTo, front_skipped, front_kept}
use Rattle.ordered_table.proofs.ordered.promoted.older_unless_last.Goals.{Joined-b-p, then-b-p, else-b-p}
use Rattle.ordered_table.proofs.ordered.promoted.older_unless_last.Goals as goal

leads : (g : _) (c : Joined-b-p g) → LeadsTo c.args.table.now.order c.in-Some.p c.args.b c.if-b-p.next
leads g c = elim c.if-b-p.branch [
  | then-b-p w ↦ (λ _. w.newest-next.ensures.newest ∙ ap Some (sym w.next-is), λ other. absurd (other w.if-b-p.true))
  | else-b-p w ↦ (λ same. absurd (w.if-b-p.false same), λ _ d e. w.next-is ∙ w.older_unless_last-next.ensures.older d e)
]

pub returns-then-next-p : goal.returns-then-next-p
returns-then-next-p g c =
    let linked = c.requires.linked in let full = rw c.in-Some.is at c.requires.promoted in
    rw c.in-Some.is (front_skipped c.args.table.now.order linked.distinct c.in-Some.p (linked.all c.in-Some.p full)
    c.args.b (linked.all c.args.b c.requires.full) c.if-b-p.next
    (leads g (goal.at.returns-then-next-p g c).Joined-b-p) c.if-next-p.true _
    c.older_unless_last-then-next-p.ensures.older)

pub returns-else-next-p : goal.returns-else-next-p
returns-else-next-p g c =
    let linked = c.requires.linked in let full = rw c.in-Some.is at c.requires.promoted in
    rw c.in-Some.is (front_kept c.args.table.now.order linked.distinct c.in-Some.p (linked.all c.in-Some.p full)
    c.args.b (linked.all c.args.b c.requires.full) c.if-b-p.next
    (leads g (goal.at.returns-else-next-p g c).Joined-b-p) c.if-next-p.false)
