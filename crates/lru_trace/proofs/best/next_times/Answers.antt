use Rattle.std.proofs.Common.{◌-◌, ◌+◌, ◌≡◌, ◌<◌, length, get_or, arith, subst, sym, refl, suc, set}
use Rattle.std.proofs.lemmas.List.{get_or_read}
use Rattle.std.proofs.lemmas.List.Elements.{All-get_or}
use Rattle.std.specs.List.{All}
use Rattle.lru_trace.proofs.SeenTimes.{Seen, sees}
use Rattle.lru_trace.proofs.best.next_times.Goals as goal

pub loop-done-preserved : goal.loop-done-preserved
loop-done-preserved c =
    let s = c.loop-done in
    let numbers = c.args.numbers.now in
    let n = length numbers in
    let now = n - 1 - s.done in
    let key = get_or numbers now 0 in
    let bound = length c.in_ok-seen.seen.items in
    let many : bound ≡ c.in_ok-bound_of.field-0 = omega (arith, c.in_ok-seen.ensures.len, c.in_ok-seen.seen.ok.0) in
    let small = subst (λ b. All (λ k. k < b) numbers) (sym many) c.in_ok-bound_of.ensures in
    let before : n - s.done ≡ suc now = omega (arith, c.loop-done-test.true) in
    let after : now ≡ n - (s.done + 1) = omega (arith, c.loop-done-test.true) in
    let so_far = subst (Seen numbers s.nexts.items s.seen.items bound) before s.invariant.1 in
    let is = sees numbers bound s.nexts.items s.seen.items now (omega (arith, c.loop-done-test.true)) small so_far in
    let within : key < bound = All-get_or (λ k. k < bound) numbers now 0 (omega (arith, c.loop-done-test.true)) small in
    let read : c.index.result.now ≡ get_or s.seen.items key 0 = get_or_read s.seen.items key c.index.result.now
    (omega (arith, within, so_far.keys)) c.index.ensures 0 in (
      refl,
      subst (λ v. Seen numbers (set s.nexts.items now v) (set s.seen.items key now) bound (n - (s.done + 1))) (sym read)
          (subst (λ m. Seen numbers (set s.nexts.items now (get_or s.seen.items key 0)) (set s.seen.items key now) bound m)
          after is),
    )
