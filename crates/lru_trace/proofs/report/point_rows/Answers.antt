use Rattle.std.proofs.Common.{◌^◌, sym, ◌∙◌, subst}
use Rattle.std.specs.Prelude.{◌/◌}
use Rattle.lru_trace.specs.Curves.{Has, HasAll}
use Rattle.lru_trace.proofs.Points.{All-points}
use Rattle.lru_trace.proofs.report.point_rows.Goals as goal

pub rows_of-requires-clause-has : goal.rows_of-requires-clause-has
rows_of-requires-clause-has c =
    subst (HasAll c.args.curve.now c.args.bits) (sym (c.deref.ensures.value ∙ c.in_ok-points.ensures))
    (All-points (λ size. Has c.args.curve.now (size / 2 ^ c.args.bits)) c.args.sizes.now c.args.powers.now
    c.requires.sizes c.requires.powers)
