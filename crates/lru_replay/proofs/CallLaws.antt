-- Runs of calls are runs of steps of the map.
use Rattle.std.proofs.Common.{◌≡◌, ℕ, Bool, List, [], ◌∷◌, subst, inl, inr, ◌⊎◌}
use Rattle.std.specs.List.{AllByRecursion}
use Rattle.lru_limits.specs.Rules.{Rules, Offers}
use Rattle.lru_model.specs.Runs.{AnyStep, StepAmong, StepOrWrite, StepOrKeptWrite, Run, ends, goes_on}
use Rattle.lru_model.specs.State.{State, IsMap}
use Rattle.lru_replay.specs.CallRuns.{IsRun, CallStep, SummingStep, SetsNoLimiter, AreSteps}
use Rattle.lru_replay.specs.Replies.{Reply}
use Rattle.lru_replay.specs.declared.calls.Call.{Call}
use Rattle.lru_replay.proofs.CallRuns.{any_call}
use Rattle.lru_replay.proofs.CallKinds.{Kind, stays, kind_of, any_step, step_among, step_or_write, step_or_kept}

module _ {K V S H C R : Type 0} (eq : K → K → Bool) (Steps : State K V S H → State K V S H → Type 0)
    {IsStep : State K V S H → C → R → State K V S H → Type 0} {IsCall : C → Type 0}
    (moves : (old new : State K V S H) (call : C) (reply : R) → IsStep old call reply new → IsCall call
    → Steps old new ⊎ (new ≡ old)) where
  steps_run : (old : State K V S H) (calls : List C) (replies : List R) (new : State K V S H)
      → IsRun IsStep (IsMap eq) old calls replies new → AllByRecursion IsCall calls → Run Steps new old
  steps_run old [] [] new same all = subst (Run Steps new) same ends
  steps_run old (call ∷ calls) (reply ∷ replies) new (mid, step, map, run) (is, all) =
      elim (moves old mid call reply step is) [
        | inl one ↦ goes_on mid one map.sized (steps_run mid calls replies new run all)
        | inr same ↦ subst (Run Steps new) same (steps_run mid calls replies new run all)
      ]
  steps_run old calls replies new none all = absurd none

module _ {K V S H : Type 0} {rules : Rules K V S} {offers : Offers K V S K} {eq : K → K → Bool} {hash_of : H → K → ℕ}
    {IsStep : State K V S H → Call K V S → Reply K V → State K V S H → Type 0}
    (kinds : (old new : State K V S H) (call : Call K V S) (reply : Reply K V) → IsStep old call reply new
    → Kind rules offers eq hash_of old new call) where
  pub are_steps : (old : State K V S H) (calls : List (Call K V S)) (replies : List (Reply K V)) (new : State K V S H)
      → IsRun IsStep (IsMap eq) old calls replies new → AreSteps rules offers eq hash_of calls old new
  are_steps old calls replies new run = record {
    any = steps_run eq (AnyStep rules offers eq hash_of)
        (λ old new call reply step is. any_step call (kinds old new call reply step)) old calls replies new run
        (any_call calls);
    among = λ test. steps_run eq (StepAmong rules offers eq hash_of test)
        (λ old new call reply step. step_among test call (kinds old new call reply step)) old calls replies new run;
    limited = steps_run eq (StepOrWrite rules offers eq hash_of)
        (λ old new call reply step. step_or_write call (kinds old new call reply step)) old calls replies new run;
  }

module _ {K V S H : Type 0} {rules : Rules K V S} {offers : Offers K V S K} {eq : K → K → Bool}
    {hash_of : H → K → ℕ} where
  pub call_kinds : (old new : State K V S H) (call : Call K V S) (reply : Reply K V)
      → CallStep rules offers eq hash_of old call reply new → Kind rules offers eq hash_of old new call
  call_kinds old new call reply step = kind_of call reply step

  pub call_moves : (old new : State K V S H) (call : Call K V S) (reply : Reply K V)
      → CallStep rules offers eq hash_of old call reply new → AnyStep rules offers eq hash_of old new ⊎ (new ≡ old)
  call_moves old new call reply step = any_step call (kind_of call reply step)

  module _ (cost : K → V → ℕ) (account : S → ℕ) where
    pub summing_kinds : (old new : State K V S H) (call : Call K V S) (reply : Reply K V)
        → SummingStep rules offers eq hash_of cost account old call reply new → Kind rules offers eq hash_of old new call
    summing_kinds old new call reply (inl (keeps, step)) = kind_of call reply step
    summing_kinds old new call reply (inr (differs, is, same)) = stays same

    kept_moves : (old new : State K V S H) (call : Call K V S) (reply : Reply K V)
        → SummingStep rules offers eq hash_of cost account old call reply new → SetsNoLimiter call
        → StepOrKeptWrite rules offers eq hash_of cost old new ⊎ (new ≡ old)
    kept_moves old new call reply (inl (keeps, step)) none = step_or_kept cost account call none keeps (kind_of call reply step)
    kept_moves old new call reply (inr (differs, is, same)) none = inr same

    pub kept_run : (old : State K V S H) (calls : List (Call K V S)) (replies : List (Reply K V)) (new : State K V S H)
        → IsRun (SummingStep rules offers eq hash_of cost account) (IsMap eq) old calls replies new
        → AllByRecursion SetsNoLimiter calls → Run (StepOrKeptWrite rules offers eq hash_of cost) new old
    kept_run = steps_run eq (StepOrKeptWrite rules offers eq hash_of cost) kept_moves
