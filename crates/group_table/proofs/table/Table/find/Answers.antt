use Rattle.std.proofs.Common.{sym, ◌∙◌, arith}
use Rattle.std.proofs.lemmas.Bool.{eqb-true, eqb-false}
use Rattle.group_table.proofs.LayoutLemmas.{length-laid_out, length-states_by}
use Rattle.group_table.proofs.TableLemmas.{IsTable-by, empty_there}
use Rattle.std.proofs.lemmas.Option.{IfSome_then}
use Rattle.group_table.proofs.SearchLemmas.{full_by_entry}
use Rattle.group_table.proofs.FindLemmas.{FindsNone-empty}
use Rattle.group_table.proofs.table.Table.find.Goals as goal

pub returns-then-is_empty_at-clause-none : goal.returns-then-is_empty_at-clause-none
returns-then-is_empty_at-clause-none g c =
    let none = eqb-true _ _ (sym c.is_empty_at.ensures ∙ c.if-is_empty_at.true) in
    rw (← c.self.view_is)
    (FindsNone-empty g.F.FnMut _ c.args.hash c.args.f
    (omega (arith, none, length-laid_out _ _ c.self.invariant.0.laid_out)))

pub returns-then-is_empty_at-clause-table : goal.returns-then-is_empty_at-clause-table
returns-then-is_empty_at-clause-table g c = rw (← c.self.view_is) (IsTable-by _ _ _ c.self.invariant.0)

pub find_bucket-requires-clause-some_empty : goal.find_bucket-requires-clause-some_empty
find_bucket-requires-clause-some_empty g c =
    let valid = c.self.invariant.0 in
    let none_is_empty = eqb-false _ _ (sym c.is_empty_at.ensures ∙ c.if-is_empty_at.false) in
    let w = empty_there _ _ _ valid (omega (arith, none_is_empty)) in
    (w.0, omega (arith, w.1, length-states_by _ _ valid.laid_out), w.2)

pub returns-clause-full : goal.returns-clause-full
returns-clause-full g c =
    rw (← c.self.view_is) (IfSome_then c.find_bucket.result c.find_bucket.ensures.found
    (λ b found. full_by_entry _ found.accepted.entry found.accepted.there))

pub returns-clause-table : goal.returns-clause-table
returns-clause-table g c = rw (← c.self.view_is) (IsTable-by _ _ _ c.self.invariant.0)
