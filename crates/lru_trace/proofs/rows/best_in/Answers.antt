use Rattle.std.proofs.Common.{Some, ap, sym, ◌∙◌}
use Rattle.std.specs.Prelude.{is_some}
use Rattle.lru_trace.specs.Rows.{best_in}
use Rattle.lru_trace.proofs.rows.best_in.Goals as goal

pub returns : goal.returns
returns c = λ trace knows.
    let rest = rw c.in-Some.is at knows in
    let min = c.in_ok-min.ensures trace rest in
    let bypass = c.in_ok-bypass.ensures trace rest in
    (λ i. Some (record { min = min i; bypass = bypass i }))
    ∙ ap (λ o. best_in trace (is_some o) c.args.size) (sym c.in-Some.is)
