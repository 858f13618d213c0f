-- A cache of tenants: a map for each open tenant.
--     `names name`: whether the call names the tenant of this name.
use Rattle.std.specs.Prelude.{◌≡◌, ℕ, ◌≤◌, ◌<◌, ◌+◌, ◌-◌, ◌^◌, nat_lt, Bool, false, List, Option, Some, None}
use Rattle.std.specs.Prelude.{sum_by}
use Rattle.std.specs.Option.{option_map, unwrap_or}
use Rattle.std.specs.List.{All}
use Rattle.std.specs.Map.{values_of}
use Rattle.lru_model.specs.Lists.{lookup}
use Rattle.lru_model.specs.State.{State, IsMap, empty_map}
use Rattle.lru_model.specs.Theorems.{IsSummed}
use Rattle.lru_tenants.specs.Tenants.{Changes}

abbrev pub with_limiter : {K V L S : Type 0} → L → State K V L S → State K V L S
with_limiter limiter map = record map { limiter = limiter }

pub record IsTenant {K V L S : Type 0} (eq : K → K → Bool) (cost : K → V → ℕ) (account budget : L → ℕ)
    (own : State K V L S) : Type 0 where
  pub map : IsMap eq own
  pub sum : IsSummed cost account own
  pub within : account own.limiter ≤ budget own.limiter
  pub small : budget own.limiter < 2 ^ 64

abbrev pub is_above : Option ℕ → ℕ → Bool
is_above None sum = false
is_above (Some limit) sum = nat_lt limit sum

pub record Cache (N K V L S : Type 0) : Type 0 where
  -- the open tenants by their names, in no particular order
  pub tenants : List (N × State K V L S)
  pub hasher : S
  -- the limit of the sum of all budgets, or `None` if this sum has no limit
  pub total_limit : Option ℕ

module _ {N K V L S : Type 0} where
  -- The empty map of a new tenant. `made` makes the limiter, an entry takes `entry_bytes` bytes, and `max` is
  -- `LinkType::MAX` as a number.
  abbrev pub fresh : (ℕ → L) → ℕ → ℕ → Cache N K V L S → ℕ → State K V L S
  fresh made entry_bytes max cache budget = empty_map (made budget) cache.hasher entry_bytes max

  -- a call changes the named tenant as `Does` says, and nothing else
  abbrev pub On : {R : Type 0} → (N → N → Bool) → (N → Bool)
      → (Option (State K V L S) → R → Option (State K V L S) → Type 0) → Cache N K V L S → R → Cache N K V L S → Type 0
  On eq names Does old answer new =
      (new ≡ record old { tenants = new.tenants }) × Changes eq names Does old.tenants answer new.tenants

  abbrev pub AreTenants : (K → K → Bool) → (K → V → ℕ) → (L → ℕ) → (L → ℕ) → Cache N K V L S → Type 0
  AreTenants eq cost account budget cache = All (IsTenant eq cost account budget) (values_of cache.tenants)

  abbrev pub budgets : (L → ℕ) → Cache N K V L S → ℕ
  budgets budget cache = sum_by (λ map. budget map.limiter) (values_of cache.tenants)

  -- the sum of the budgets if the named tenant had the budget `own`
  abbrev pub budgets_with : (L → ℕ) → (N → Bool) → ℕ → Cache N K V L S → ℕ
  budgets_with budget named own cache =
      budgets budget cache - unwrap_or (option_map (λ map. budget map.limiter) (lookup named cache.tenants)) 0 + own

  abbrev pub is_over : (L → ℕ) → (N → Bool) → ℕ → Cache N K V L S → Bool
  is_over budget named own cache = is_above cache.total_limit (budgets_with budget named own cache)
