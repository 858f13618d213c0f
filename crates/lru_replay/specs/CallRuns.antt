-- Runs of calls: steps one after another.
use Rattle.std.specs.Prelude.{◌≡◌, ℕ, Bool, List, [], ◌∷◌, ◌⊎◌, MatchOption}
use Rattle.std.specs.List.{AllByRecursion}
use Rattle.lru_limits.specs.Rules.{Rules, Offers}
use Rattle.lru_model.specs.Lists.{lookup_entry}
use Rattle.lru_model.specs.Runs.{AreAmong, AnyStep, StepAmong, StepOrWrite, Run}
use Rattle.lru_model.specs.State.{State, Contents, contents}
use Rattle.lru_replay.specs.declared.calls.Call.{Call}
use Rattle.lru_replay.specs.declared.calls.Call.TheVariants as calls
use Rattle.lru_replay.specs.Replies.{Reply, no_memory, cost_differs}
use Rattle.lru_replay.specs.Steps.{Named, nothing, a_key, the_newest, does, ReplyStep, ListStep}

-- A run is a list of steps, each with a call and its reply. `Holds` is true after each step.
module _ {S C R : Type 0} (IsStep : S → C → R → S → Type 0) (Holds : S → Type 0) where
  abbrev pub IsRun : S → List C → List R → S → Type 0
  IsRun old [] [] new = new ≡ old
  IsRun old (call ∷ calls) (reply ∷ replies) new =
      (mid : S) × IsStep old call reply mid × Holds mid × IsRun mid calls replies new
  IsRun old [] (reply ∷ replies) new = ⊥
  IsRun old (call ∷ calls) [] new = ⊥

module _ {K V S : Type 0} where
  -- the call returns a list of pairs, and must allocate memory for this list
  abbrev pub StoresPairs : Call K V S → Type 0
  StoresPairs (calls.InsertWith key v) = Unit {0}
  StoresPairs calls.List = Unit {0}
  StoresPairs (calls.Drain front back) = Unit {0}
  StoresPairs call = ⊥

  -- either the call makes its step, or the allocation of the returned list fails and nothing changes
  abbrev pub StepIfMemory : {A : Type 0} → (A → Call K V S → Reply K V → A → Type 0) → A → Call K V S → Reply K V → A
      → Type 0
  StepIfMemory IsStep old call reply new = IsStep old call reply new
      ⊎ (StoresPairs call × (reply ≡ no_memory) × (new ≡ old))

  abbrev pub SetsNoLimiter : Call K V S → Type 0
  SetsNoLimiter (calls.SetLimiter s) = ⊥
  SetsNoLimiter call = Unit {0}

module _ {K V S : Type 0} (eq : K → K → Bool) (cost : K → V → ℕ) (account : S → ℕ) where
  -- If the call writes a value, the pair keeps its cost. If the call sets a limiter, the running total stays the same.
  abbrev pub KeepsCost : Contents K V S → Call K V S → Type 0
  KeepsCost old (calls.Write key v) =
      MatchOption (lookup_entry (eq key) old.pairs) (Unit {0}) (λ there. cost there.0 v ≡ cost there.0 there.1)
  KeepsCost old (calls.SetLimiter s) = account s ≡ account old.limiter
  KeepsCost old call = Unit {0}

abbrev pub IsAmong : {K : Type 0} → (K → K → Bool) → (K → Bool) → Named K → Type 0
IsAmong eq test nothing = Unit {0}
IsAmong eq test (a_key key) = AreAmong (eq key) test
IsAmong eq test the_newest = ⊥

module _ {K V S : Type 0} (rules : Rules K V S) (offers : Offers K V S K) (eq : K → K → Bool) (hash_of : K → ℕ) where
  abbrev pub ListCallStep : Contents K V S → Call K V S → Reply K V → Contents K V S → Type 0
  ListCallStep = StepIfMemory (ListStep rules offers eq hash_of)

module _ {K V S H : Type 0} (rules : Rules K V S) (offers : Offers K V S K) (eq : K → K → Bool)
    (hash_of : H → K → ℕ) where
  abbrev pub NamesAmong : (K → Bool) → Call K V S → Type 0
  NamesAmong test call = IsAmong eq test (does rules offers eq hash_of call).names

  abbrev pub CallStep : State K V S H → Call K V S → Reply K V → State K V S H → Type 0
  CallStep = StepIfMemory (ReplyStep rules offers eq hash_of)

  module _ (cost : K → V → ℕ) (account : S → ℕ) where
    -- If the call keeps the cost (`KeepsCost`), the call does what `CallStep` says. Otherwise the reply is
    -- `cost_differs`, and nothing changes.
    abbrev pub SummingStep : State K V S H → Call K V S → Reply K V → State K V S H → Type 0
    SummingStep old call reply new = (KeepsCost eq cost account (contents old) call × CallStep old call reply new)
        ⊎ ((KeepsCost eq cost account (contents old) call → ⊥) × (reply ≡ cost_differs) × (new ≡ old))

  -- The calls, one after another, are a run of the map. A call that changes nothing is no step of the run.
  pub record AreSteps (calls : List (Call K V S)) (old new : State K V S H) : Type 0 where
    pub any : Run (AnyStep rules offers eq hash_of) new old
    -- if the calls name only keys that pass a test, the steps name only such keys, too
    pub among : (test : K → Bool) → AllByRecursion (NamesAmong test) calls
        → Run (StepAmong rules offers eq hash_of test) new old
    -- if no call sets a limiter, no step sets a limiter
    pub limited : AllByRecursion SetsNoLimiter calls → Run (StepOrWrite rules offers eq hash_of) new old
