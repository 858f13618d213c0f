use Rattle.std.proofs.lemmas.Result.{err_from_is_err_and}
use Rattle.lru_replay.specs.Output.{cost_text}
use Rattle.lru_replay.proofs.WrittenTexts.{writes_after, failed_front}
use Rattle.lru_replay.proofs.lines.output.write_answer.Goals as goal

pub returns-in_err-write_figures-in-Stats : goal.returns-in_err-write_figures-in-Stats
returns-in_err-write_figures-in-Stats g c =
    let p = err_from_is_err_and c.from_residual.result c.from_residual.ensures.1 in
    rw (c.in-Stats.is, p.1, p.2) (failed_front _ _ _ _ _ c.in_err-write_figures-in-Stats.ensures)

pub returns-in_ok-write_figures-in-Stats : goal.returns-in_ok-write_figures-in-Stats
returns-in_ok-write_figures-in-Stats g c = rw c.in-Stats.is
    (writes_after _ _ _ _ (cost_text c.args.cost) _ c.in_ok-write_figures-in-Stats.ensures c.write_cost.ensures)
