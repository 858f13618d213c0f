use Rattle.std.proofs.Common.{◌≡◌, ◌-◌, ◌+◌, suc, [], length, ap, sym, ◌∙◌, arith}
use Rattle.std.proofs.lemmas.Bool.{eqb-true}
use Rattle.std.proofs.lemmas.List.{nil_from_length}
use Rattle.lru_trace.specs.Lines.{cell}
use Rattle.lru_trace.proofs.Cells.{cell_of_nothing}
use Rattle.lru_trace.proofs.columns.cell.Goals as goal

pub returns-then-is_empty : goal.returns-then-is_empty
returns-then-is_empty c =
    let separator = c.args.column.separator in
    let n = c.args.column.index - c.loop.counter in
    let nothing : c.loop.rest.now ≡ [] =
    nil_from_length c.loop.rest.now (eqb-true (length c.loop.rest.now) 0 (sym c.if-is_empty.ensures)) in
    nothing ∙ sym (c.loop.invariant ∙ ap (cell separator n) nothing ∙ cell_of_nothing separator n)

pub loop-preserved : goal.loop-preserved
loop-preserved c =
    let separator = c.args.column.separator in
    let left = c.args.column.index - (c.loop.counter + 1) in
    let one : c.args.column.index - c.loop.counter ≡ suc left = omega (arith, c.loop-test.true) in
    c.loop.invariant ∙ ap (λ n. cell separator n c.loop.rest.now) one
    ∙ ap (cell separator left) (sym c.behind-rest.ensures)
