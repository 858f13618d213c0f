use Rattle.std.proofs.Common.{List, ℕ, ◌++◌, Err, Option}
use Rattle.std.proofs.lemmas.Result.{err_from_is_err_and}
use Rattle.std.specs.Io.KnownBytes.{Appends}
use Rattle.lru_replay.specs.declared.lines.outcome.ReplayError.{ReplayError}
use Rattle.lru_replay.specs.Output.{Fails}
use Rattle.lru_replay.proofs.WrittenTexts.{writes_after, failed_front}
use Rattle.lru_replay.proofs.lines.output.write_figures.Goals as goal

later : (a b c : Option (List ℕ)) (t u : List ℕ) (e : ReplayError) → Appends a b t → Fails e b c u
    → Fails e a c (t ++ u)
later a b c t u e = writes_after {A = Unit {0}} a b c t u (Err e)

pub returns-in_err-write_named : goal.returns-in_err-write_named
returns-in_err-write_named g c =
    let p = err_from_is_err_and c.from_residual.result c.from_residual.ensures.1 in
    rw (p.1, p.2) (failed_front _ _ _ _ _ c.in_err-write_named.ensures)

pub returns-in_err-write_named-2 : goal.returns-in_err-write_named-2
returns-in_err-write_named-2 g c =
    let p = err_from_is_err_and c.from_residual-in_err-write_named-2.result
    c.from_residual-in_err-write_named-2.ensures.1 in
    rw (p.1, p.2) (later _ _ _ _ _ _ c.in_ok-write_named.ensures
    (failed_front _ _ _ _ _ c.in_err-write_named-2.ensures))

pub returns-in_err-write_named-3 : goal.returns-in_err-write_named-3
returns-in_err-write_named-3 g c =
    let p = err_from_is_err_and c.from_residual-in_err-write_named-3.result
    c.from_residual-in_err-write_named-3.ensures.1 in
    rw (p.1, p.2) (later _ _ _ _ _ _ c.in_ok-write_named.ensures
    (later _ _ _ _ _ _ c.in_ok-write_named-2.ensures (failed_front _ _ _ _ _ c.in_err-write_named-3.ensures)))

pub returns-in_err-write_named-4 : goal.returns-in_err-write_named-4
returns-in_err-write_named-4 g c =
    let p = err_from_is_err_and c.from_residual-in_err-write_named-4.result
    c.from_residual-in_err-write_named-4.ensures.1 in
    rw (p.1, p.2) (later _ _ _ _ _ _ c.in_ok-write_named.ensures
    (later _ _ _ _ _ _ c.in_ok-write_named-2.ensures (later _ _ _ _ _ _ c.in_ok-write_named-3.ensures
    (failed_front _ _ _ _ _ c.in_err-write_named-4.ensures))))

pub returns : goal.returns
returns g c =
    let result = c.write_placed.result in
    writes_after _ _ _ _ _ result c.in_ok-write_named.ensures
    (writes_after _ _ _ _ _ result c.in_ok-write_named-2.ensures
    (writes_after _ _ _ _ _ result c.in_ok-write_named-3.ensures
    (writes_after _ _ _ _ _ result c.in_ok-write_named-4.ensures c.write_placed.ensures)))
