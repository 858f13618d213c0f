-- What a program does to the keys of a map, whatever calls the program makes. The map is an LRU cache with a maximum
-- length or a limit of cost.
use Rattle.std.specs.Prelude.{◌≡◌, ℕ, ◌+◌, ◌*◌, ◌^◌, ◌<◌, ◌≤◌, Bool, true, List, [], ◌∷◌, ◌++◌, length, sum_by}
use Rattle.std.specs.List.{AllByRecursion}
use Rattle.group_table.specs.Change.{count_up}
use Rattle.lru_limits.specs.Budget.{Budget}
use Rattle.lru_model.specs.Exact.{HasTableFor}
use Rattle.lru_model.specs.Kept.{KeepsToLength}
use Rattle.lru_model.specs.Lists.{keys_of}
use Rattle.lru_model.specs.State.{State, IsSized}
use Rattle.lru_model.specs.Theorems.{IsSummed}
use Rattle.lru_theory.specs.Budgets.{refer_within}
use Rattle.lru_theory.specs.Inclusion.{KeyCall, after_call}
use Rattle.lru_theory.specs.Traces.{AreEqual, fault, refer}

-- A kind of LRU cache, such as `of_length` and `of_cost`.
pub record Cache (K V S H : Type 0) : Type 1 where
  pub eq : K → K → Bool
  pub limit : S → ℕ
  -- the keys of a cache with this limit after a reference to this key
  pub refer : ℕ → K → List K → List K
  -- a cache with this limit stores each missed key
  pub Stores : ℕ → Type 0
  -- what holds for the map before and after each reference
  pub Keeps : State K V S H → Type 0

-- equal keys have equal costs, and pairs with equal keys and the same value have equal weights
pub record CostsAlike {K V : Type 0} (eq : K → K → Bool) (weight : K → V → ℕ) (cost : K → ℕ) : Type 0 where
  pub keys : (key other : K) → eq key other ≡ true → cost key ≡ cost other
  pub pairs : (key other : K) (value : V) → eq key other ≡ true → weight key value ≡ weight other value

-- Each pair costs what its key costs (`each`). If the keys of a list together cost at most the limit, the list has at
-- most `most` keys, even if some are equal (`few`). The map can have a table for 8 * (most + 1) pairs (`tables`).
pub record KeepsToCost {K V H : Type 0} (weight : K → V → ℕ) (cost : K → ℕ) (st : State K V Budget H) : Type 0 where
  pub each : AllByRecursion (λ pair. weight pair.0 pair.1 ≡ cost pair.0) st.pairs
  pub summed : IsSummed weight (λ budget. budget.cost) st
  pub within : st.limiter.cost ≤ st.limiter.limit
  pub fits : st.limiter.limit < 2 ^ 63
  pub most : ℕ
  pub few : (keys : List K) → sum_by cost keys ≤ st.limiter.limit → length keys ≤ most
  pub tables : HasTableFor (8 * (most + 1)) st
  pub sized : IsSized st

module _ {K V H : Type 0} (eq : K → K → Bool) where
  -- a map with a maximum length, which stores nothing if the maximum is 0
  abbrev pub of_length : Cache K V ℕ H
  of_length = record { eq = eq; limit = λ n. n; refer = refer eq; Stores = λ n. 0 < n; Keeps = KeepsToLength }

  -- a map with a limit of cost; the `weight` of each pair is the `cost` of its key
  abbrev pub of_cost : (K → V → ℕ) → (K → ℕ) → Cache K V Budget H
  of_cost weight cost = record {
    eq = eq;
    limit = λ budget. budget.limit;
    refer = refer_within eq cost;
    Stores = λ n. Unit {0};
    Keeps = KeepsToCost weight cost;
  }

module _ {K V S H : Type 0} (cache : Cache K V S H) where
  pub record LeavesKeys (left : List K) (old new : State K V S H) : Type 0 where
    pub keys : AreEqual cache.eq (keys_of new.pairs) left
    pub limit : cache.limit new.limiter ≡ cache.limit old.limiter
    pub keeps : cache.Keeps old → cache.Keeps new

  -- After a reference, the referenced key is the newest, and the old keys follow in their order. The oldest keys are
  -- evicted while the cache is over its limit (`does`). If a cache with this limit stores each missed key, a miss
  -- raises `placed` by one, up to `u64::MAX`, and a hit does not change `placed` (`stored`).
  pub record Reference (key : K) (old new : State K V S H) : Type 0 where
    pub does : LeavesKeys (cache.refer (cache.limit old.limiter) key (keys_of old.pairs)) old new
    pub stored : cache.Stores (cache.limit old.limiter)
        → new.counts.placed ≡ count_up old.counts.placed (fault cache.eq key (keys_of old.pairs))

  -- The program read the map, or wrote values.
  pub record Reads (old new : State K V S H) : Type 0 where
    pub does : LeavesKeys (keys_of old.pairs) old new
    pub stored : new.counts.placed ≡ old.counts.placed

  -- The program made the references of a trace, and the map changed from `old` to `new`. `missed` is the number of
  -- references that did not find their key. Between references, the program may have read the map or written values
  -- (`Reads`).
  pub data Referenced (old : State K V S H) : (trace : List K) (missed : ℕ) (new : State K V S H) → Type 0 where
    begins : Referenced old [] 0 old
    refers : (key : K) (trace : List K) (missed : ℕ) (mid new : State K V S H) → Referenced old trace missed mid →
        Reference key mid new →
        Referenced old (trace ++ key ∷ []) (missed + fault cache.eq key (keys_of mid.pairs)) new
    reads : (trace : List K) (missed : ℕ) (mid new : State K V S H) → Referenced old trace missed mid →
        Reads mid new → Referenced old trace missed new

module _ {K V H : Type 0} (eq : K → K → Bool) where
  abbrev pub ChangesKeys : KeyCall K → State K V ℕ H → State K V ℕ H → Type 0
  ChangesKeys call old = LeavesKeys (of_length eq) (after_call eq old.limiter call (keys_of old.pairs)) old

  pub data Did (old : State K V ℕ H) : (calls : List (KeyCall K)) (new : State K V ℕ H) → Type 0 where
    nothing : Did old [] old
    does_more : (call : KeyCall K) (calls : List (KeyCall K)) (mid new : State K V ℕ H) → Did old calls mid →
        ChangesKeys call mid new → Did old (calls ++ call ∷ []) new
