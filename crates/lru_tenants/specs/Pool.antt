-- A pool: tenants that share one limit. Each tenant has a share of the limit.
--     `names name`: whether the call names the tenant of this name.
--     `rules`, `offers`: the limiter's `Rules` and `Offers` (`lru_limits`).
--     `own.0`, `own.1`: the share and the map of a tenant.
--     `account s`: the running total of the limiter s.
use Rattle.std.specs.Prelude.{◌≡◌, ℕ, ◌≤◌, ◌<◌, ◌+◌, ◌-◌, Bool, false, List, [], ◌∷◌, length, Option, Some, None}
use Rattle.std.specs.Prelude.{option_map, is_some, sum_by, nat_lt, Result, Ok, Err, OnErr}
use Rattle.std.specs.declared.alloc.AllocError.{AllocError}
use Rattle.std.specs.List.{All}
use Rattle.std.specs.Map.{set_value, values_of}
use Rattle.lru_limits.specs.Rules.{Rules, Offers}
use Rattle.lru_model.specs.Calls.{promoted, Remove, PopOldest}
use Rattle.lru_model.specs.Inserts.{Insert}
use Rattle.lru_model.specs.Lists.{IsFront, lookup}
use Rattle.lru_model.specs.State.{State, empty_map}
use Rattle.lru_tenants.specs.Cache.{IsTenant}
use Rattle.lru_tenants.specs.Tenants.{Changes}
use Rattle.lru_tenants.specs.declared.error.TenantError.{TenantError}
use Rattle.lru_tenants.specs.declared.error.TenantError.TheVariants.{NotOpen, Memory}

abbrev pub Part : Type 0 → Type 0 → Type 0 → Type 0 → Type 0
Part K V L S = ℕ × State K V L S

pub record Pool (N K V L S : Type 0) : Type 0 where
  -- the open tenants by their names, in no particular order
  pub tenants : List (N × Part K V L S)
  -- the limit of the sum of all costs, and also of the sum of all shares
  pub limit : ℕ
  pub hasher : S

module _ {K V L S : Type 0} (account : L → ℕ) where
  abbrev pub cost : Part K V L S → ℕ
  cost own = account own.1.limiter

  abbrev pub excess : Part K V L S → ℕ
  excess own = cost own - own.0

  -- What a call may do to a tenant that the call does not name. If the tenant's entries cost more than its share, the
  -- call may evict the tenant's oldest entries.
  pub record Spares (own left : Part K V L S) : Type 0 where
    pub share : left.0 ≡ own.0
    pub front : IsFront left.1.pairs own.1.pairs
    pub within : cost own ≤ own.0 → left ≡ own

  abbrev pub Spared : Option (Part K V L S) → Option (Part K V L S) → Type 0
  Spared None new = new ≡ None
  Spared (Some own) new = (left : Part K V L S) × Spares own left × (new ≡ Some left)

  abbrev pub total_cost : {N : Type 0} → List (N × Part K V L S) → ℕ
  total_cost tenants = sum_by cost (values_of tenants)

  pub record IsPart (eq : K → K → Bool) (costs : K → V → ℕ) (budget : L → ℕ) (limit : ℕ) (own : Part K V L S)
      : Type 0 where
    pub tenant : IsTenant eq costs account budget own.1
    pub limits : budget own.1.limiter ≡ limit

abbrev pub total_share : {N K V L S : Type 0} → List (N × Part K V L S) → ℕ
total_share tenants = sum_by (λ own. own.0) (values_of tenants)

abbrev pub with_map : {K V L S : Type 0} → State K V L S → Part K V L S → Part K V L S
with_map map own = (own.0, map)

module _ {N K V L S : Type 0} (rules : Rules K V L) (account : L → ℕ) (eq : N → N → Bool) where
  -- The tenant that is furthest above its share loses its oldest entry. If several tenants are equally far above, one
  -- of them loses an entry.
  pub record Evicts (old new : List (N × Part K V L S)) : Type 0 where
    pub name : N
    pub own : Part K V L S
    pub there : lookup (eq name) old ≡ Some own
    pub above : own.0 < cost account own
    pub furthest : All (λ other. excess account other ≤ excess account own) (values_of old)
    pub gone : K × V
    pub left : State K V L S
    pub pops : PopOldest rules own.1 (Some gone) left
    pub is : new ≡ set_value (eq name) old (with_map left own)

  -- evictions, one after another, while the sum of all costs is above the limit
  pub data Evictions (limit : ℕ) (new : List (N × Part K V L S)) : List (N × Part K V L S) → Type 0 where
    ends : total_cost account new ≤ limit → Evictions limit new new
    evicts : {old : List (N × Part K V L S)} (mid : List (N × Part K V L S)) → limit < total_cost account old
        → Evicts old mid → Evictions limit new mid → Evictions limit new old

-- Below, `None` stands for a tenant that is not open.
module _ {K V L S : Type 0} where
  abbrev pub read_part : {R : Type 0} → (Part K V L S → R) → Option (Part K V L S) → Result R TenantError
  read_part reads None = Err NotOpen
  read_part reads (Some own) = Ok (reads own)

  abbrev pub Gets : (K → Bool) → Option (Part K V L S) → Result (Option V) TenantError → Option (Part K V L S) → Type 0
  Gets names old answer new = (answer ≡ read_part (λ own. lookup names own.1.pairs) old)
      × (new ≡ option_map (λ own. with_map (promoted names own.1) own) old)

  abbrev pub Removes : Rules K V L → (K → Bool) → Part K V L S → Result (Option V) TenantError
      → Option (Part K V L S) → Type 0
  Removes rules names own answer new = (value : Option V) × (left : State K V L S) × Remove rules names own.1 value left
      × (answer ≡ Ok value) × (new ≡ Some (with_map left own))

  abbrev pub Closes : Part K V L S → Result ℕ TenantError → Option (Part K V L S) → Type 0
  Closes own answer new = (answer ≡ Ok (length own.1.pairs)) × (new ≡ None)

  abbrev pub has_key : (K → Bool) → Option (Part K V L S) → Bool
  has_key named None = false
  has_key named (Some own) = is_some (lookup named own.1.pairs)

abbrev pub put_answer : Result Bool AllocError → Bool → Result Bool TenantError
put_answer (Ok kept) there = Ok there
put_answer (Err e) there = Err Memory

module _ {N K V L S : Type 0} where
  abbrev pub opened : (ℕ → L) → ℕ → ℕ → Pool N K V L S → ℕ → Part K V L S
  opened made entry_bytes max pool share = (share, empty_map (made pool.limit) pool.hasher entry_bytes max)

  abbrev pub is_over : Pool N K V L S → ℕ → Bool
  is_over pool share = nat_lt pool.limit (total_share pool.tenants + share)

  pub record IsPool (eq : K → K → Bool) (costs : K → V → ℕ) (account budget : L → ℕ) (pool : Pool N K V L S)
      : Type 0 where
    pub each : All (IsPart account eq costs budget pool.limit) (values_of pool.tenants)
    pub within : total_cost account pool.tenants ≤ pool.limit
    pub shares : total_share pool.tenants ≤ pool.limit

  -- a call changes the named tenant as `Does` says, and nothing else
  abbrev pub On : {R : Type 0} → (N → N → Bool) → (N → Bool)
      → (Option (Part K V L S) → R → Option (Part K V L S) → Type 0) → Pool N K V L S → R → Pool N K V L S → Type 0
  On eq names Does old answer new =
      (new ≡ record old { tenants = new.tenants }) × Changes eq names Does old.tenants answer new.tenants

  abbrev pub SparesOthers : (L → ℕ) → (N → N → Bool) → (N → Bool) → Pool N K V L S → Pool N K V L S → Type 0
  SparesOthers account eq names old new =
      (other : N) → names other ≡ false → Spared account (lookup (eq other) old.tenants) (lookup (eq other) new.tenants)

  -- The calls change the pool from `old` to `new`. Each call spares the tenants that it does not name (`SparesOthers`).
  abbrev pub PoolRun : (L → ℕ) → (N → N → Bool) → Pool N K V L S → List (N → Bool) → Pool N K V L S → Type 0
  PoolRun account eq old [] new = new ≡ old
  PoolRun account eq old (names ∷ more) new =
      (mid : Pool N K V L S) × SparesOthers account eq names old mid × PoolRun account eq mid more new

  -- A put inserts the entry into the tenant's map. If the insert does not fail, entries are evicted while the sum of
  -- all costs is above the limit.
  pub record Puts (rules : Rules K V L) (offers : Offers K V L K) (account : L → ℕ) (eq : N → N → Bool)
      (same : K → K → Bool) (hash_of : S → K → ℕ) (names : N → Bool) (key : K) (value : V) (own : Part K V L S)
      (old : Pool N K V L S) (answer : Result Bool TenantError) (new : Pool N K V L S) : Type 0 where
    pub left : State K V L S
    pub result : Result Bool AllocError
    pub inserts : Insert rules offers same hash_of key value own.1 result left
    pub evictions : Evictions rules account eq old.limit new.tenants
        (set_value names old.tenants (with_map left own))
    pub failed : OnErr result (new.tenants ≡ set_value names old.tenants (with_map left own))
    pub spared : Spared account (Some (with_map left own)) (lookup names new.tenants)
    pub said : answer ≡ put_answer result (has_key (same key) (lookup names new.tenants))
    pub is : new ≡ record old { tenants = new.tenants }

  abbrev pub PutsIfOpen : (Part K V L S → Pool N K V L S → Result Bool TenantError → Pool N K V L S → Type 0)
      → Option (Part K V L S) → Pool N K V L S → Result Bool TenantError → Pool N K V L S → Type 0
  PutsIfOpen does None old answer new = (answer ≡ Err NotOpen) × (new ≡ old)
  PutsIfOpen does (Some own) old answer new = does own old answer new
