use Rattle.std.proofs.Common.{◌≡◌, ℕ, ◌≤◌, Bool, length, refl, sym, ap, ◌∙◌, subst, arith, inl, inr}
use Rattle.std.proofs.lemmas.Map.{length-set_value}
use Rattle.lru_limits.specs.Rules.{Rules, Offers}
use Rattle.lru_limits.specs.Limits.{IsFixed, LimitsLength, LimitsMemory}
use Rattle.lru_model.specs.State.{State}
use Rattle.lru_model.specs.Runs.{Step}
use Rattle.lru_model.specs.Runs.{StepOrWrite, Run, ends, goes_on}
use Rattle.lru_model.specs.Theorems.{UsesAtMost}
use Rattle.lru_model.specs.Calls.{written}
use Rattle.lru_model.proofs.Theorems.Limits.{keeps_number, length_at_most, uses_at_most}
use Rattle.lru_model.proofs.Theorems.StepTotals.{step_total}
use Rattle.lru_model.proofs.Theorems.Runs.{step_changes}

module _ {K V S H I : Type 0} {rules : Rules K V S} {offers : Offers K V S I} {most : S → ℕ} (names : I → K → Bool)
    (hash_of : H → K → ℕ) where
  module _ (fixed : IsFixed rules offers most) where
    pub step_keeps_number : (old new : State K V S H) → Step rules offers names hash_of old new
        → most new.limiter ≡ most old.limiter
    step_keeps_number old new step = (step_changes (keeps_number fixed) old new step).2.moves

    pub run_keeps_number : (new old : State K V S H) → Run (StepOrWrite rules offers names hash_of) new old
        → most new.limiter ≡ most old.limiter
    run_keeps_number new old ends = refl
    run_keeps_number new old (goes_on mid (inl step) sized r) =
        run_keeps_number new mid r ∙ step_keeps_number old mid step
    run_keeps_number new old (goes_on mid (inr (test, value, e)) sized r) =
        run_keeps_number new mid r ∙ ap (λ st. most st.limiter) e

    run_keeps : (P : ℕ → State K V S H → Type 0)
        → ((old new : State K V S H) → Step rules offers names hash_of old new → P (most old.limiter) old
        → P (most old.limiter) new)
        → ((n : ℕ) (test : K → Bool) (value : V) (old : State K V S H) → P n old → P n (written test value old))
        → (new old : State K V S H) → Run (StepOrWrite rules offers names hash_of) new old → P (most old.limiter) old
        → P (most old.limiter) new
    run_keeps P keeps writes new old ends h = h
    run_keeps P keeps writes new old (goes_on mid (inl step) sized r) h =
        let same = step_keeps_number old mid step in
        subst (λ n. P n new) same (run_keeps P keeps writes new mid r
        (subst (λ n. P n mid) (sym same) (keeps old mid step h)))
    run_keeps P keeps writes new old (goes_on mid (inr (test, value, e)) sized r) h =
        let same = ap (λ st. most st.limiter) e in
        subst (λ n. P n new) same (run_keeps P keeps writes new mid r
        (subst (λ n. P n mid) (sym same) (subst (P (most old.limiter)) (sym e) (writes _ test value old h))))

  module _ (limits : LimitsLength rules offers most) where
    pub step_stays_short : (old new : State K V S H) → Step rules offers names hash_of old new
        → length old.pairs ≤ most old.limiter → length new.pairs ≤ most old.limiter
    step_stays_short old new step = length_at_most rules most old new limits.within
        (step_keeps_number limits.fixed old new step) (step_total (λ _. 1) step)

    pub run_stays_short : (new old : State K V S H) → Run (StepOrWrite rules offers names hash_of) new old
        → length old.pairs ≤ most old.limiter → length new.pairs ≤ most old.limiter
    run_stays_short = run_keeps limits.fixed (λ n st. length st.pairs ≤ n) step_stays_short
        (λ n test value old few. omega (arith, few, length-set_value test old.pairs value))

  module _ (limits : LimitsMemory rules offers most) where
    pub step_uses_at_most : (old new : State K V S H) → Step rules offers names hash_of old new
        → UsesAtMost (most old.limiter) old → UsesAtMost (most old.limiter) new
    step_uses_at_most old new step = uses_at_most rules most _ _ _ old new limits.within (λ s p. p.1)
        (step_changes (keeps_number limits.fixed) old new step).2.tables

    pub run_uses_at_most : (new old : State K V S H) → Run (StepOrWrite rules offers names hash_of) new old
        → UsesAtMost (most old.limiter) old → UsesAtMost (most old.limiter) new
    run_uses_at_most = run_keeps limits.fixed (λ n st. UsesAtMost n st) step_uses_at_most
        (λ n test value old uses. uses)
