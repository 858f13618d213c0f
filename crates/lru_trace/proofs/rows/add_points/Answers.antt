use Rattle.std.proofs.Common.{◌+◌, drop, ap, sym, ◌∙◌}
use Rattle.std.specs.List.{fold}
use Rattle.std.proofs.lemmas.List.{at_drop_more}
use Rattle.lru_trace.specs.Rows.{with_size}
use Rattle.lru_trace.proofs.rows.add_points.Goals as goal

pub loop-size-preserved : goal.loop-size-preserved
loop-size-preserved c =
    let s = c.loop-size in
    let sizes = c.args.sizes.now in
    s.invariant ∙ at_drop_more (fold with_size s.points.items) sizes s.size-index 0 c.loop-size-test.true
    ∙ ap (λ points. fold with_size points (drop (s.size-index + 1) sizes)) (sym c.in_ok-add_point.ensures)
