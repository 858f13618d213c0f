use Rattle.std.proofs.Common.{◌≡◌, ℕ, List, get_or, ◌<◌, ◌≤◌, ap, sym, ◌∙◌, arith}
use Rattle.std.specs.Prelude.{length}
use Rattle.std.proofs.lemmas.List.{get_or_default}
use Rattle.lru_trace.specs.Rows.{with_size}
use Rattle.lru_trace.proofs.Points.{is_there, comes_before, comes_last}
use Rattle.lru_trace.proofs.rows.add_point.Goals as goal

first : (xs : List ℕ) (i x : ℕ) → i < length xs → x ≡ get_or xs i x → get_or xs i 0 ≡ x
first xs i x within is = get_or_default xs i 0 x within ∙ sym is

pub returns-then-index-size : goal.returns-then-index-size
returns-then-index-size c =
    let s = c.loop-at in
    let (same, split) = s.invariant in
    let within : s.at < length s.points.items = omega (arith, c.loop-at-test.true, c.len-at-end.ensures, ap length same) in
    sym (is_there s.points.items c.args.size s.at within (first _ s.at _ within c.index.ensures ∙ c.if-index-size.true)) ∙ sym split ∙ ap (λ l. with_size l c.args.size) same

pub returns-then-index-size-2 : goal.returns-then-index-size-2
returns-then-index-size-2 c =
    let s = c.loop-at in
    let (same, split) = s.invariant in
    let within : s.at < length s.points.items = omega (arith, c.loop-at-test.true, c.len-at-end.ensures, ap length same) in
    c.in-Ok.ensures.items ∙ sym (comes_before s.points.items c.args.size s.at within
    (omega (arith, first _ s.at _ within c.index-in-loop-at.ensures, c.if-index-size-2.true))) ∙ sym split
    ∙ ap (λ l. with_size l c.args.size) same

pub returns : goal.returns
returns c =
    let s = c.loop-at in
    let (same, split) = s.invariant in
    let all : length s.points.items ≤ s.at = omega (arith, c.loop-at-test.false, c.len-at-end.ensures, ap length same) in
    c.in_ok-push.ensures.items ∙ sym (comes_last s.points.items c.args.size s.at all) ∙ sym split
    ∙ ap (λ l. with_size l c.args.size) same
