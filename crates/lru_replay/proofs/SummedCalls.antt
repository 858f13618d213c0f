use Rattle.std.proofs.Common.{ℕ, Bool, inl, inr, sym, ◌∙◌, subst}
use Rattle.lru_limits.specs.Rules.{Rules, Offers}
use Rattle.lru_model.specs.Runs.{StepOrKeptWrite, Run, ends, goes_on}
use Rattle.lru_model.specs.State.{State, contents, IsSized}
use Rattle.lru_model.specs.Theorems.{IsSummed}
use Rattle.lru_replay.specs.CallRuns.{CallStep, KeepsCost}
use Rattle.lru_replay.specs.Replies.{Reply}
use Rattle.lru_replay.specs.declared.calls.Call.{Call}
use Rattle.lru_replay.proofs.CallKinds.{Kind, calls_map, stays, writes_value, sets_limiter, kind_of}

module _ {K V S H : Type 0} (rules : Rules K V S) (offers : Offers K V S K) (eq : K → K → Bool)
    (hash_of : H → K → ℕ) (cost : K → V → ℕ) (account : S → ℕ) where
  abbrev pub RunsKeepSums : Type 0
  RunsKeepSums = (old new : State K V S H) → Run (StepOrKeptWrite rules offers eq hash_of cost) new old
      → IsSummed cost account old → IsSummed cost account new

  module _ (law : RunsKeepSums) (old new : State K V S H) (sized : IsSized new) where
    kind_summed : (call : Call K V S) → KeepsCost eq cost account (contents old) call
        → Kind rules offers eq hash_of old new call → IsSummed cost account old → IsSummed cost account new
    kind_summed call keeps (calls_map step names) = law old new (goes_on new (inl step) sized ends)
    kind_summed call keeps (stays e) = λ h. subst (IsSummed cost account) (sym e) h
    kind_summed call keeps (writes_value k v is e) =
        let kept = subst (KeepsCost eq cost account (contents old)) is keeps in
        law old new (goes_on new (inr (eq k, v, kept, e)) sized ends)
    kind_summed call keeps (sets_limiter s is e) =
        let kept = subst (KeepsCost eq cost account (contents old)) is keeps in
        λ h. subst (IsSummed cost account) (sym e) (kept ∙ h)

    pub call_summed : (call : Call K V S) (reply : Reply K V) → KeepsCost eq cost account (contents old) call
        → CallStep rules offers eq hash_of old call reply new → IsSummed cost account old → IsSummed cost account new
    call_summed call reply keeps step = kind_summed call keeps (kind_of call reply step)
