-- A get that puts the key if it is not there.
--     `makes v`: the closure may return v.
use Rattle.std.specs.Prelude.{◌≡◌, ℕ, Bool, true, false, Option, Some, None, option_map, Result, Ok, Err}
use Rattle.std.specs.declared.alloc.AllocError.{AllocError}
use Rattle.lru_limits.specs.Rules.{Rules, Offers}
use Rattle.lru_model.specs.GetOrInserts.{MakesNewest}
use Rattle.lru_model.specs.Lists.{first}
use Rattle.lru_model.specs.State.{State}
use Rattle.lru_tenants.specs.declared.error.TenantError.{TenantError}
use Rattle.lru_tenants.specs.declared.error.TenantError.TheVariants.{Memory}

-- The answer is the value of the newest pair if the result is true, `None` if the result is false, and `Memory` if the
-- result is an error.
abbrev pub newest_answer : {K V L S : Type 0} → Result Bool AllocError → State K V L S → Result (Option V) TenantError
newest_answer (Ok true) map = Ok (option_map (λ pair. pair.1) (first map.pairs))
newest_answer (Ok false) map = Ok None
newest_answer (Err e) map = Err Memory

module _ {K V L S : Type 0} (rules : Rules K V L) (offers : Offers K V L K) (budget_of : L → ℕ) (eq : K → K → Bool)
    (hash_of : S → K → ℕ) (makes : V → Type 0) (key : K) where
  -- the pair of the key becomes the newest, or is inserted with a value that the closure returns
  pub record GetsOrPuts (old : State K V L S) (answer : Result (Option V) TenantError)
      (new : Option (State K V L S)) : Type 0 where
    pub left : State K V L S
    pub result : Result Bool AllocError
    pub step : MakesNewest rules offers eq hash_of makes key old result left
    pub budget : budget_of left.limiter ≡ budget_of old.limiter
    pub said : answer ≡ newest_answer result left
    pub is : new ≡ Some left
