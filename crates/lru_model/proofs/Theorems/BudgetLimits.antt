use Rattle.std.proofs.Common.{◌≡◌, ℕ, ◌≤◌, Bool, false, sym}
use Rattle.std.proofs.Common.{ap, ◌∙◌, subst, arith, ◌⊎◌, inl, inr}
use Rattle.std.proofs.lemmas.Bool.Decides.{nat_tests}
use Rattle.std.specs.Prelude.{nat_lt}
use Rattle.lru_limits.specs.Admissions.{Terms, offers_of}
use Rattle.lru_limits.specs.Rules.{Rules, Offers}
use Rattle.lru_limits.specs.Laws.{IsAccount}
use Rattle.lru_limits.specs.Budget.{IsBudgeted}
use Rattle.lru_model.specs.State.{State, contents, IsWithin}
use Rattle.lru_model.specs.Runs.{Step, StepOrWrite, StepOrKeptWrite, Run, ends, goes_on}
use Rattle.lru_model.specs.Theorems.{IsSummed}
use Rattle.lru_model.proofs.Theorems.RunLimits.{step_keeps_number, run_keeps_number}
use Rattle.lru_model.proofs.Theorems.Runs.{step_summed, kept_summed}
use Rattle.lru_model.proofs.Theorems.StepTotals.{step_total}
use Rattle.lru_model.proofs.Theorems.Sums.{total, total-is}

module _ {K V S : Type 0} {rules : Rules K V S} {terms : Terms K V S} {account budget : S → ℕ}
    {made : ℕ → S} {rebudgeted : ℕ → S → S} (laws : IsBudgeted rules terms account budget made rebudgeted) where
  abbrev offers : Offers K V S K
  offers = offers_of terms

  pub not_over : (s : S) (n : ℕ) → rules.is_over_the_limit s n ≡ false → account s ≤ budget s
  not_over s n e =
      let within : nat_lt (budget s) (account s) ≡ false = sym (laws.over s n) ∙ e in
      grind (arith, nat_tests)

  module _ {H : Type 0} {cost : K → V → ℕ} (sums : IsAccount rules offers cost account) (names : K → K → Bool)
      (hash_of : H → K → ℕ) where
    abbrev pair_cost : K × V → ℕ
    pair_cost p = cost p.0 p.1

    module _ (old new : State K V S H) (was : IsSummed cost account old) (is : IsSummed cost account new)
        (same : budget new.limiter ≡ budget old.limiter) (within : account old.limiter ≤ budget old.limiter) where
      abbrev Within : Type 0
      Within = account new.limiter ≤ budget new.limiter

      less : total pair_cost new.pairs ≤ total pair_cost old.pairs → Within
      less h = omega (arith, was, is, same, within, total-is pair_cost new.pairs, total-is pair_cost old.pairs, h)

      ended : IsWithin rules (contents new) ⊎ (total pair_cost new.pairs ≤ total pair_cost old.pairs) → Within
      ended (inl (inl e)) = less (omega (arith, ap (total pair_cost) e))
      ended (inl (inr e)) = not_over new.limiter _ e
      ended (inr h) = less h

    pub step_budget : (old new : State K V S H) → Step rules offers names hash_of old new
        → budget new.limiter ≡ budget old.limiter
    step_budget = step_keeps_number names hash_of laws.fixed

    pub step_keeps_total : (old new : State K V S H) → Step rules offers names hash_of old new
        → IsSummed cost account old → account old.limiter ≤ budget old.limiter
        → account new.limiter ≤ budget new.limiter
    step_keeps_total old new s was within =
        ended old new was (step_summed sums old new s was) (step_budget old new s) within (step_total pair_cost s)

    kept_total : (old new : State K V S H) → StepOrKeptWrite rules offers names hash_of cost old new
        → IsSummed cost account old → account old.limiter ≤ budget old.limiter
        → account new.limiter ≤ budget new.limiter
    kept_total old new (inl s) = step_keeps_total old new s
    kept_total old new (inr (test, value, same, e)) = λ was within. subst (λ st. account st.limiter ≤ budget st.limiter)
        (sym e) within

    pub run_keeps_total : (new old : State K V S H) → Run (StepOrKeptWrite rules offers names hash_of cost) new old
        → IsSummed cost account old → account old.limiter ≤ budget old.limiter
        → account new.limiter ≤ budget new.limiter
    run_keeps_total new old ends was within = within
    run_keeps_total new old (goes_on mid s sized r) was within =
        run_keeps_total new mid r (kept_summed sums old mid s was) (kept_total old mid s was within)

  pub run_budget : {H : Type 0} {names : K → K → Bool} {hash_of : H → K → ℕ} (new old : State K V S H)
      → Run (StepOrWrite rules offers names hash_of) new old → budget new.limiter ≡ budget old.limiter
  run_budget {names = names} {hash_of} = run_keeps_number names hash_of laws.fixed
