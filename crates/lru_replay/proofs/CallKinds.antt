-- What a call of a run is for the map: a step, a write, another limiter, or a call that changes nothing.
use Rattle.std.proofs.Common.{◌≡◌, ℕ, Bool, Some, None, refl, subst, inl, inr, ◌⊎◌}
use Rattle.lru_limits.specs.Rules.{Rules, Offers}
use Rattle.lru_model.proofs.PassingLemmas.{plain_insert}
use Rattle.lru_model.specs.Calls.{written, removal}
use Rattle.lru_model.specs.GetOrInserts.{got, inserted}
use Rattle.lru_model.specs.Runs.{Step, inserts, updates, gets, demotes, removes, pops_oldest}
use Rattle.lru_model.specs.Runs.{pops_newest, drains, clears, reserves, shrinks, trims, AreAmong, NamesOnly, AnyStep}
use Rattle.lru_model.specs.Runs.{calls as any_call, writes, sets_limiter as sets, StepAmong, StepOrWrite}
use Rattle.lru_model.specs.Runs.{StepOrKeptWrite}
use Rattle.lru_model.specs.State.{State, Leaves, contents}
use Rattle.lru_replay.specs.CallRuns.{CallStep, NamesAmong, SetsNoLimiter, KeepsCost}
use Rattle.lru_replay.specs.Replies.{Reply}
use Rattle.lru_replay.specs.Steps.{ReplyStep}
use Rattle.lru_replay.specs.declared.calls.Call.{Call}
use Rattle.lru_replay.specs.declared.calls.Call.TheVariants as calls

module _ {K V S H : Type 0} (rules : Rules K V S) (offers : Offers K V S K) (eq : K → K → Bool)
    (hash_of : H → K → ℕ) (old new : State K V S H) where
  abbrev pub Names : Call K V S → AnyStep rules offers eq hash_of old new → Type 0
  Names call step = (test : K → Bool) → NamesAmong rules offers eq hash_of test call
      → NamesOnly rules offers eq hash_of test old new step

  pub data Kind (call : Call K V S) : Type 0 where
    calls_map : (step : Step rules offers eq hash_of old new) → Names call (any_call step) → Kind call
    stays : new ≡ old → Kind call
    writes_value : (key : K) (v : V) → call ≡ calls.Write key v → new ≡ written (eq key) v old → Kind call
    sets_limiter : (s : S) → call ≡ calls.SetLimiter s → new ≡ record old { limiter = s } → Kind call

module _ {K V S H : Type 0} {rules : Rules K V S} {offers : Offers K V S K} {eq : K → K → Bool}
    {hash_of : H → K → ℕ} {old new : State K V S H} where
  removed : {call : Call K V S} (key : K) → Leaves old (removal rules (eq key) (contents old)) new
      → ((test : K → Bool) → NamesAmong rules offers eq hash_of test call → AreAmong (eq key) test)
      → Kind rules offers eq hash_of old new call
  removed key left = calls_map (removes (eq key) _ (record { value = refl; state = left }))

  pub step_kind : (call : Call K V S) (reply : Reply K V) → ReplyStep rules offers eq hash_of old call reply new
      → Kind rules offers eq hash_of old new call
  step_kind (calls.Insert k v) reply (result, h, is) = calls_map (inserts k v result h) (λ test among. among)
  step_kind (calls.InsertWith k v) reply (r, h, is) =
      calls_map (inserts k v r.0 (plain_insert h)) (λ test among. among)
  step_kind (calls.GetOrInsert k v) reply (result, got w there same e, is) =
      calls_map (gets (eq k) e) (λ test among. among)
  step_kind (calls.GetOrInsert k v) reply (result, inserted none w made h, is) =
      calls_map (inserts k w result h) (λ test among. among)
  step_kind (calls.Update k v) reply (result, h, is) = calls_map (updates k v result h) (λ test among. among)
  step_kind (calls.Get k) reply (is, e) = calls_map (gets (eq k) e) (λ test among. among)
  step_kind (calls.Promote k) reply (is, e) = calls_map (gets (eq k) e) (λ test among. among)
  step_kind (calls.Demote k) reply (is, e) = calls_map (demotes (eq k) e) (λ test among. among)
  step_kind (calls.GetByHash hash k) reply (Some w, (h, e), is) = calls_map (gets (eq k) e) (λ test among. among)
  step_kind (calls.GetByHash hash k) reply (None, (h, e), is) = stays e
  step_kind (calls.PeekByHash hash k) reply (result, (h, e), is) = stays e
  step_kind (calls.Write k v) reply (is, e) = writes_value k v refl e
  step_kind (calls.Remove k) reply (is, left) = removed k left (λ test among. among)
  step_kind (calls.RemoveEntry k) reply (is, left) = removed k left (λ test among. among)
  step_kind calls.PopOldest reply (is, left) =
      calls_map (pops_oldest _ (record { pair = refl; state = left })) (λ test among. tt)
  step_kind calls.PopNewest reply (is, left) =
      calls_map (pops_newest _ (record { pair = refl; state = left })) (λ test among. among)
  step_kind (calls.Reserve n) reply (result, h, is) = calls_map (reserves n result h) (λ test among. tt)
  step_kind calls.Shrink reply (result, h, is) = calls_map (shrinks result h) (λ test among. tt)
  step_kind calls.Trim reply (is, h) = calls_map (trims h) (λ test among. tt)
  step_kind calls.Clear reply (is, e) = calls_map (clears e) (λ test among. tt)
  step_kind (calls.Drain front back) reply (pairs, h, is) = calls_map (drains front back pairs h) (λ test among. tt)
  step_kind calls.Stats reply (figures, (h, e), is) = stays e
  step_kind (calls.SetLimiter s) reply (is, e) = sets_limiter s refl e
  step_kind call reply h = stays h.1

  pub kind_of : (call : Call K V S) (reply : Reply K V) → CallStep rules offers eq hash_of old call reply new
      → Kind rules offers eq hash_of old new call
  kind_of call reply (inl step) = step_kind call reply step
  kind_of call reply (inr (stores, is, e)) = stays e

  pub any_step : (call : Call K V S) → Kind rules offers eq hash_of old new call
      → AnyStep rules offers eq hash_of old new ⊎ (new ≡ old)
  any_step call (calls_map step names) = inl (any_call step)
  any_step call (stays e) = inr e
  any_step call (writes_value key v is e) = inl (writes (eq key) v e)
  any_step call (sets_limiter s is e) = inl (sets s e)

  pub step_among : (test : K → Bool) (call : Call K V S) → Kind rules offers eq hash_of old new call
      → NamesAmong rules offers eq hash_of test call → StepAmong rules offers eq hash_of test old new ⊎ (new ≡ old)
  step_among test call (calls_map step names) among = inl (any_call step, names test among)
  step_among test call (stays e) among = inr e
  step_among test call (writes_value key v is e) among =
      inl (writes (eq key) v e, subst (NamesAmong rules offers eq hash_of test) is among)
  step_among test call (sets_limiter s is e) among = inl (sets s e, tt)

  pub step_or_write : (call : Call K V S) → Kind rules offers eq hash_of old new call → SetsNoLimiter call
      → StepOrWrite rules offers eq hash_of old new ⊎ (new ≡ old)
  step_or_write call (calls_map step names) none = inl (inl step)
  step_or_write call (stays e) none = inr e
  step_or_write call (writes_value key v is e) none = inl (inr (eq key, v, e))
  step_or_write call (sets_limiter s is e) none = absurd (subst SetsNoLimiter is none)

  pub step_or_kept : (cost : K → V → ℕ) (account : S → ℕ) (call : Call K V S) → SetsNoLimiter call
      → KeepsCost eq cost account (contents old) call → Kind rules offers eq hash_of old new call
      → StepOrKeptWrite rules offers eq hash_of cost old new ⊎ (new ≡ old)
  step_or_kept cost account call none keeps (calls_map step names) = inl (inl step)
  step_or_kept cost account call none keeps (stays e) = inr e
  step_or_kept cost account call none keeps (writes_value key v is e) =
      inl (inr (eq key, v, subst (KeepsCost eq cost account (contents old)) is keeps, e))
  step_or_kept cost account call none keeps (sets_limiter s is e) = absurd (subst SetsNoLimiter is none)
