-- What a call does to the tenant that it names, and what a run of calls does to each tenant.
--     `fresh cache budget`: the empty map of a tenant that was newly opened in this cache.
--     `same x y`: whether x and y are the same name.
use Rattle.std.specs.Prelude.{◌≡◌, ◌⊎◌, ℕ, Bool, true, false, List, [], ◌∷◌, length, reverse, Option, Some, None}
use Rattle.std.specs.Prelude.{option_map, IfSome}
use Rattle.std.specs.Prelude.{Result, Ok, Err}
use Rattle.std.specs.declared.alloc.AllocError.{AllocError}
use Rattle.lru_limits.specs.Rules.{Rules, Offers}
use Rattle.lru_model.specs.Calls.{promoted}
use Rattle.lru_model.specs.Callbacks.{InsertPasses, TrimPasses}
use Rattle.lru_model.specs.Inserts.{Insert}
use Rattle.lru_model.specs.Lists.{lookup}
use Rattle.lru_model.specs.State.{State, Trims}
use Rattle.lru_tenants.specs.Cache.{Cache, with_limiter, is_over, IsTenant, AreTenants, On}
use Rattle.lru_tenants.specs.Isolation.{OwnRun}
use Rattle.lru_tenants.specs.declared.error.TenantError.{TenantError}
use Rattle.lru_tenants.specs.declared.error.TenantError.TheVariants.{AlreadyOpen, NotOpen, Memory, OverTotal}
use Rattle.lru_tenants.specs.declared.call.TenantAnswer.{TenantAnswer}
use Rattle.lru_tenants.specs.declared.call.TenantAnswer.TheVariants as answers
use Rattle.lru_tenants.specs.declared.call.TenantCall.{TenantCall}
use Rattle.lru_tenants.specs.declared.call.TenantCall.TheVariants as calls

module _ {N K V : Type 0} where
  abbrev pub named : TenantCall N K V → N
  named (calls.Open name budget) = name
  named (calls.Put name key value) = name
  named (calls.Get name key) = name
  named (calls.Cost name) = name
  named (calls.Close name) = name

abbrev pub put_answer : {R : Type 0} → Result R AllocError → Result R TenantError
put_answer (Ok inserted) = Ok inserted
put_answer (Err e) = Err Memory

-- The definitions below say what each call may return, and what the named tenant may be after the call. `None` stands
-- for a tenant that is not open.

-- If the sum of the budgets would be over the limit, or if memory runs out, the tenant stays closed.
abbrev pub Opens : {X : Type 0} → Bool → X → Option X → Result (Unit {0}) TenantError → Option X → Type 0
Opens over fresh (Some map) answer new = (answer ≡ Err AlreadyOpen) × (new ≡ Some map)
Opens true fresh None answer new = (answer ≡ Err OverTotal) × (new ≡ None)
Opens false fresh None answer new = ((answer ≡ Ok tt) × (new ≡ Some fresh)) ⊎ ((answer ≡ Err Memory) × (new ≡ None))

-- If the tenant is open, the call does what `does` says. Otherwise the call returns `NotOpen`.
abbrev pub OfOpen : {X R : Type 0} → (X → Result R TenantError → Option X → Type 0) → Option X
    → Result R TenantError → Option X → Type 0
OfOpen does None answer new = (answer ≡ Err NotOpen) × (new ≡ None)
OfOpen does (Some map) answer new = does map answer new

abbrev pub Takes : {X : Type 0} → Option X → Option X → Option X → Type 0
Takes old taken new = (taken ≡ old) × (new ≡ None)

module _ {K V L S : Type 0} where
  abbrev pub read_of : {R : Type 0} → (State K V L S → R) → Option (State K V L S) → Result R TenantError
  read_of reads None = Err NotOpen
  read_of reads (Some map) = Ok (reads map)

  -- a call that does not close the tenant, and succeeds if the tenant is open
  abbrev pub IfOpen : {R : Type 0} → (State K V L S → R → State K V L S → Type 0) → Option (State K V L S)
      → Result R TenantError → Option (State K V L S) → Type 0
  IfOpen {R} does = OfOpen (λ map answer new.
      (result : R) × (left : State K V L S) × does map result left × (answer ≡ Ok result) × (new ≡ Some left))

  -- If the total limit permits the new budget, the tenant gets this budget. The tenant's oldest entries are evicted
  -- while the tenant is over the budget.
  abbrev pub SetsBudget : Rules K V L → (L → L) → Bool → State K V L S → Result (Unit {0}) TenantError
      → Option (State K V L S) → Type 0
  SetsBudget rules rebudgeted true map answer new = (answer ≡ Err OverTotal) × (new ≡ Some map)
  SetsBudget rules rebudgeted false map answer new = (left : State K V L S)
      × Trims rules (with_limiter (rebudgeted map.limiter) map) left × (answer ≡ Ok tt) × (new ≡ Some left)

  abbrev pub PassesOn : (State K V L S → List (K × V) → Option (State K V L S) → Type 0) → Option (State K V L S)
      → List (K × V) → Option (State K V L S) → Type 0
  PassesOn does None passed new = (passed ≡ []) × (new ≡ None)
  PassesOn does (Some map) passed new = does map passed new

  abbrev pub Gets : (K → Bool) → Option (State K V L S) → Result (Option V) TenantError → Option (State K V L S) →
      Type 0
  Gets names old answer new =
      (answer ≡ read_of (λ map. lookup names map.pairs) old) × (new ≡ option_map (promoted names) old)

  abbrev pub BudgetPasses : Rules K V L → (L → L) → Bool → State K V L S → List (K × V)
      → Option (State K V L S) → Type 0
  BudgetPasses rules rebudgeted true old passed new = (passed ≡ []) × (new ≡ Some old)
  BudgetPasses rules rebudgeted false old passed new = (left : State K V L S)
      × TrimPasses rules (with_limiter (rebudgeted old.limiter) old) passed left × (new ≡ Some left)

  abbrev pub ClosePasses : State K V L S → List (K × V) → Option (State K V L S) → Type 0
  ClosePasses old passed new = (passed ≡ reverse old.pairs) × (new ≡ None)

  abbrev pub Closes : State K V L S → Result ℕ TenantError → Option (State K V L S) → Type 0
  Closes map answer new = (answer ≡ Ok (length map.pairs)) × (new ≡ None)

  -- A put does not change the budget of the tenant.
  module _ (rules : Rules K V L) (offers : Offers K V L K) (budget_of : L → ℕ) (eq : K → K → Bool)
      (hash_of : S → K → ℕ) (key : K) (value : V) where
    pub record Puts (old : State K V L S) (answer : Result Bool TenantError) (new : Option (State K V L S))
        : Type 0 where
      pub left : State K V L S
      pub result : Result Bool AllocError
      pub inserts : Insert rules offers eq hash_of key value old result left
      pub budget : budget_of left.limiter ≡ budget_of old.limiter
      pub said : answer ≡ put_answer result
      pub is : new ≡ Some left

    pub record PutPasses (old : State K V L S) (passed : List (K × V)) (new : Option (State K V L S)) : Type 0 where
      pub left : State K V L S
      pub result : Result Bool AllocError
      pub inserts : InsertPasses rules offers eq hash_of key value old result passed left
      pub is : new ≡ Some left

module _ {N K V L S : Type 0} (rules : Rules K V L) (offers : Offers K V L K) (cost : K → V → ℕ)
    (account budget_of : L → ℕ) (eq : K → K → Bool) (hash_of : S → K → ℕ) (fresh : Cache N K V L S → ℕ → State K V L S)
    (same : N → N → Bool) where
  -- In this cache, the call may return `answer` and change the named tenant from `old` to `new`.
  abbrev pub TenantStep : Cache N K V L S → TenantCall N K V → Option (State K V L S) → TenantAnswer V
      → Option (State K V L S) → Type 0
  TenantStep cache (calls.Open name budget) old answer new = (result : Result (Unit {0}) TenantError)
      × Opens (is_over budget_of (same name) budget cache) (fresh cache budget) old result new
      × (answer ≡ answers.Opened result)
  TenantStep cache (calls.Put name key value) old answer new = (result : Result Bool TenantError)
      × OfOpen (Puts rules offers budget_of eq hash_of key value) old result new × (answer ≡ answers.Put result)
  TenantStep cache (calls.Get name key) old answer new = (result : Result (Option V) TenantError)
      × Gets (eq key) old result new × (answer ≡ answers.Got result)
  TenantStep cache (calls.Cost name) old answer new =
      (answer ≡ answers.Cost (read_of (λ map. account map.limiter) old)) × (new ≡ old)
  TenantStep cache (calls.Close name) old answer new = (result : Result ℕ TenantError)
      × OfOpen Closes old result new × (answer ≡ answers.Closed result)

  -- The call changes the tenant that it names as `TenantStep` says, and nothing else. Afterwards, each tenant keeps to
  -- its budget (`AreTenants`).
  abbrev pub CacheStep : Cache N K V L S → TenantCall N K V → TenantAnswer V → Cache N K V L S → Type 0
  CacheStep old call answer new = On same (same (named call)) (TenantStep old call) old answer new
      × AreTenants eq cost account budget_of new

  -- The calls change the cache from `old` to `new`, and return these answers. Each call finds the cache as the previous
  -- call left it.
  abbrev pub IsRun : Cache N K V L S → List (TenantCall N K V) → List (TenantAnswer V) → Cache N K V L S → Type 0
  IsRun old [] [] new = new ≡ old
  IsRun old (call ∷ calls) (answer ∷ answers) new =
      (mid : Cache N K V L S) × CacheStep old call answer mid × IsRun mid calls answers new
  IsRun old [] (answer ∷ answers) new = ⊥
  IsRun old (call ∷ calls) [] new = ⊥

  -- A step of a tenant in a cache that differs from `first` at most in its tenants. Before the call, the tenants are
  -- `tenants`.
  abbrev pub OwnStep : Cache N K V L S → TenantCall N K V → Option (State K V L S) → TenantAnswer V
      → Option (State K V L S) → Type 0
  OwnStep first call old answer new = (tenants : List (N × State K V L S)) × (lookup (same (named call)) tenants ≡ old)
      × TenantStep (record first { tenants = tenants }) call old answer new
      × IfSome new (IsTenant eq cost account budget_of)

  abbrev pub IsOwnRun : Cache N K V L S → (N → Bool) → Option (State K V L S) → List (TenantCall N K V)
      → List (TenantAnswer V) → Option (State K V L S) → Type 0
  IsOwnRun first = OwnRun named (OwnStep first)
