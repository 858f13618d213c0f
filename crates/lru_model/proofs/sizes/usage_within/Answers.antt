use Rattle.std.proofs.Common.{◌≡◌, ℕ, ◌+◌, ◌*◌, ◌%◌, ◌<◌, ◌≤◌, ◌^◌, ap, sym, ◌∙◌, subst, arith}
use Rattle.std.proofs.Math.Nat.{mod-eq_of_lt}
use Rattle.std.proofs.Math.Pow.{pow_mono}
use Rattle.std.proofs.lemmas.Option.{same_Some, none-some}
use Rattle.lru_model.specs.Sizes.{usage}
use Rattle.lru_model.proofs.TableSizes.Budgets.{IsBest, best_none, best_takes, best_stays, best_of_all}
use Rattle.lru_model.proofs.sizes.usage_within.Goals as goal
use Rattle.lru_model.proofs.sizes.usage_within.Goals.{then-buckets-max+in-Some+then-bytes-budget}
use Rattle.lru_model.proofs.sizes.usage_within.Goals.{then-buckets-max+in-Some+else-bytes-budget}
use Rattle.lru_model.proofs.sizes.usage_within.Goals.{then-buckets-max+in_default, else-buckets-max}

pub loop-k-init : goal.loop-k-init
loop-k-init c = best_none c.args.max c.args.entry_bytes c.args.budget

size : (k : ℕ) → k < 62 → 4 * 2 ^ k % 2 ^ 64 ≡ 4 * 2 ^ k
size k few = let least : 2 ^ k ≤ 2 ^ 61 = pow_mono {i = k} {j = 61} (omega (arith, few)) in
    mod-eq_of_lt (omega (arith, least))

pub loop-k-preserved : goal.loop-k-preserved
loop-k-preserved c =
    let e = c.args.entry_bytes in let max = c.args.max in let budget = c.args.budget in let k = c.loop-k.k in
    let best = c.loop-k.best in
    let is = size k c.loop-k-test.true in
    let used = ap (usage e) is in
    elim c.if-buckets-max.branch [
      | then-buckets-max+in-Some+then-bytes-budget w ↦
          subst (IsBest max e budget (k + 1)) (sym w.best-is)
          (best_takes max e budget k best w.in-Some.bytes c.loop-k.invariant
          (omega (arith, is, w.if-buckets-max.true)) (sym used ∙ sym w.in-Some.ensures) w.if-bytes-budget.true)
      | then-buckets-max+in-Some+else-bytes-budget w ↦
          subst (IsBest max e budget (k + 1)) (sym w.best-is)
          (best_stays max e budget k best c.loop-k.invariant (λ other reached u within.
          absurd (omega (
            arith,
            within,
            w.if-bytes-budget.false,
            same_Some other w.in-Some.bytes
                (sym u ∙ sym used ∙ sym w.in-Some.ensures),
          ))))
      | then-buckets-max+in_default w ↦
          subst (IsBest max e budget (k + 1)) (sym w.best-is)
          (best_stays max e budget k best c.loop-k.invariant (λ other reached u within.
          none-some other (w.in_default.ensures ∙ used ∙ u)))
      | else-buckets-max w ↦
          subst (IsBest max e budget (k + 1)) (sym w.best-is)
          (best_stays max e budget k best c.loop-k.invariant (λ other reached u within.
          absurd (omega (arith, is, reached, w.if-buckets-max.false))))
    ]

pub returns : goal.returns
returns c = let e : c.loop-k.k ≡ 62 = omega arith in
    best_of_all c.args.max c.args.entry_bytes c.args.budget c.loop-k.best
    (subst (λ k. IsBest c.args.max c.args.entry_bytes c.args.budget k c.loop-k.best) e c.loop-k.invariant)
