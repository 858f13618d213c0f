-- What holds for the fields of a cache, and of a pool. No public contract cites this module.
use Rattle.std.specs.Prelude.{◌≡◌, ◌≤◌, ◌<◌, ◌^◌, ℕ, Bool, false, List, Option, Some, None, sum_by, not}
use Rattle.std.specs.List.{All}
use Rattle.std.specs.Map.{values_of}
use Rattle.lru_limits.specs.Bytes.{Bytes, both_own}
use Rattle.lru_model.specs.Theorems.{KeepsBytes}
use Rattle.lru_model.specs.Lists.{is_empty}
use Rattle.lru_model.specs.State.{State}
use Rattle.lru_tenants.specs.Bytes.{limit_of}
use Rattle.lru_tenants.specs.Cache.{IsTenant, is_above}
use Rattle.lru_tenants.specs.Pool.{Part, IsPart, total_cost, total_share}

pub record Holds {N K V L S : Type 0} (eq : K → K → Bool) (cost : K → V → ℕ) (account budget : L → ℕ)
    (tenants : List (N × State K V L S)) (total : ℕ) (limit : Option ℕ) : Type 0 where
  pub each : All (IsTenant eq cost account budget) (values_of tenants)
  pub sum : total ≡ sum_by (λ map. budget map.limiter) (values_of tenants)
  pub within : is_above limit total ≡ false

pub record HoldsPool {N K V L S : Type 0} (eq : K → K → Bool) (costs : K → V → ℕ) (account budget : L → ℕ)
    (tenants : List (N × Part K V L S)) (limit shares total : ℕ) : Type 0 where
  pub each : All (IsPart account eq costs budget limit) (values_of tenants)
  pub share : shares ≡ total_share tenants
  pub enough : shares ≤ limit
  pub cost : total ≡ total_cost account tenants
  pub within : total ≤ limit

abbrev pub has_entries : {K V L S : Type 0} → Option (Part K V L S) → Bool
has_entries None = false
has_entries (Some own) = not (is_empty own.1.pairs)

-- `tenants` maps the name of each tenant to the map of this tenant
pub record HoldsBytes {N K V S : Type 0} (of_name : N → ℕ) (of_pair : K → V → ℕ)
    (tenants : State N (State K V Bytes S) Bytes S) : Type 0 where
  pub each : All (KeepsBytes of_pair) (values_of tenants.pairs)
  pub all : KeepsBytes (both_own of_name limit_of) tenants
  pub small : limit_of tenants < 2 ^ 64
