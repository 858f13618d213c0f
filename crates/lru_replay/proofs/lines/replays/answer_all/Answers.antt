use Rattle.std.proofs.Common.{◌∙◌}
use Rattle.std.proofs.lemmas.Result.{err_from_is_err_and}
use Rattle.lru_replay.proofs.EndedReplays.{first_failed, no_limiter, no_limiter_cut, done_first, done_others}
use Rattle.lru_replay.proofs.EndedReplays.{others_failed}
use Rattle.lru_replay.proofs.HeldBytes.{whole_limit, none_held}
use Rattle.lru_replay.proofs.lines.replays.answer_all.Goals as goal

pub returns-in_err-ending : goal.returns-in_err-ending
returns-in_err-ending g c =
    let (bytes, part) = c.in_err-ending.ensures.err in
    let p = err_from_is_err_and c.from_residual.result c.from_residual.ensures.1 in
    rw (p.1, p.2, c.in_err-ending.ensures.failed) (first_failed _ _ _ bytes part)

pub returns-in_err-write_bytes : goal.returns-in_err-write_bytes
returns-in_err-write_bytes g c =
    let (bytes, taken, held) = c.in_ok-ending.ensures.ok in
    let none = none_held bytes _ (c.as_slice.ensures ∙ held) c.in_default.ensures.none in
    let p = err_from_is_err_and c.from_residual-in_err-write_bytes.result c.from_residual-in_err-write_bytes.ensures.1
    in
    rw (p.1, p.2) (no_limiter_cut _ _ _ _ _ bytes none taken _ c.in_err-write_bytes.ensures)

pub returns-in_default : goal.returns-in_default
returns-in_default g c =
    let (bytes, taken, held) = c.in_ok-ending.ensures.ok in
    let none = none_held bytes _ (c.as_slice.ensures ∙ held) c.in_default.ensures.none in
    no_limiter _ _ _ _ _ bytes none taken c.in_ok-write_bytes.ensures

pub returns-in_default-ending : goal.returns-in_default-ending
returns-in_default-ending g c =
    let (bytes, taken, held) = c.in_ok-ending.ensures.ok in
    let spells = whole_limit bytes _ (c.as_slice.ensures ∙ held) c.in-Some.limit c.in-Some.ensures.some in
    done_first _ _ _ _ bytes _ spells c.in_default-ending.not-Feed taken

pub returns-in_err-answer_under : goal.returns-in_err-answer_under
returns-in_err-answer_under g c =
    let p = err_from_is_err_and c.from_residual-in_err-answer_under.result
    c.from_residual-in_err-answer_under.ensures.1 in
    let (bytes, taken, held) = c.in_ok-ending.ensures.ok in
    let spells = whole_limit bytes _ (c.as_slice.ensures ∙ held) c.in-Some.limit c.in-Some.ensures.some in
    let fed = rw c.in-Feed.is at taken in
    rw (p.1, p.2) (others_failed _ _ _ _ _ bytes _ spells fed _ c.in_err-answer_under.ensures)

pub returns : goal.returns
returns g c =
    let (bytes, taken, held) = c.in_ok-ending.ensures.ok in
    let spells = whole_limit bytes _ (c.as_slice.ensures ∙ held) c.in-Some.limit c.in-Some.ensures.some in
    let fed = rw c.in-Feed.is at taken in
    done_others _ _ _ _ _ bytes _ spells fed c.in_ok-answer_under.ensures
