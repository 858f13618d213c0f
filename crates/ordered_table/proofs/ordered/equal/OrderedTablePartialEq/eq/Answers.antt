use Rattle.std.proofs.Common.{sym, ap, ◌∙◌, length}
use Rattle.std.specs.Cmp.Lexicographic.{unequal}
use Rattle.ordered_table.specs.OrderedTable.{pairs_of}
use Rattle.ordered_table.proofs.ordered.equal.OrderedTablePartialEq.eq.Goals as goal

pub returns-then-len : goal.returns-then-len
returns-then-len g c =
    sym (unequal _ (pairs_of c.args.self.now) (pairs_of c.args.other.now) (λ same.
    c.if-len.true (c.len.ensures.value ∙ ap length c.iter-ours.ensures.rest ∙ same
    ∙ sym (c.len-2.ensures.value ∙ ap length c.iter-theirs.ensures.rest))))
