use Rattle.std.proofs.Common.{ℕ, Bool, List}
use Rattle.lru_limits.specs.Rules.{Rules, Offers}
use Rattle.lru_limits.specs.Laws.{IsLookup, IsInsertion}
use Rattle.lru_model.specs.State.{State}
use Rattle.lru_model.specs.Runs.{AnyStep, calls, Run, ends, goes_on}
use Rattle.lru_model.specs.Runs.{inserts, updates, EachStep, EvictsFromOldEnd}
use Rattle.lru_model.proofs.Theorems.Fronts.{insert_evicts, update_evicts}

module _ {K V S H I : Type 0} {rules : Rules K V S} {offers : Offers K V S I} {names : I → K → Bool}
    {hash_of : H → K → ℕ} {eq : K → K → Bool} {query_input : I → List (List ℕ)} {key_input : K → List (List ℕ)}
    (looks_up : IsLookup names eq query_input key_input) (laws : IsInsertion names eq offers) where
  pub step_evicts : (old new : State K V S H) (step : AnyStep rules offers names hash_of old new)
      → EvictsFromOldEnd rules offers names hash_of old new step
  step_evicts old new (calls (inserts key value result h)) = insert_evicts looks_up laws key value old result new h
  step_evicts old new (calls (updates key value result h)) = update_evicts looks_up laws key value old result new h
  step_evicts old new step = tt

  pub run_evicts : (new old : State K V S H) (run : Run (AnyStep rules offers names hash_of) new old)
      → EachStep (EvictsFromOldEnd rules offers names hash_of) run
  run_evicts new old ends = tt
  run_evicts new old (goes_on mid step sized run) = (step_evicts old mid step, run_evicts new mid run)
