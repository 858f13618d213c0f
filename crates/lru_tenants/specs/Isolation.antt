-- How a list of calls of any kind changes one tenant.
--     `names name`: whether the call names the tenant of this name.
--     `named call`: the tenant that the call names.
--     `Does call old answer new`: what the call may do to this tenant, and what the call may return.
use Rattle.std.specs.Prelude.{◌≡◌, ◌⊎◌, Bool, true, false, List, [], ◌∷◌, Option}
use Rattle.lru_model.specs.Lists.{lookup}
use Rattle.lru_tenants.specs.Tenants.{ChangesOnly}

-- what a call did: which tenant the call names, and this tenant before and after the call
pub record Did (N X : Type 0) : Type 0 where
  pub names : N → Bool
  pub found : Option X
  pub left : Option X

module _ {N X : Type 0} where
  -- Each call changes only the tenant that it names.
  abbrev pub CacheRun : (N → N → Bool) → List (N × X) → List (Did N X) → List (N × X) → Type 0
  CacheRun eq old [] new = new ≡ old
  CacheRun eq old (did ∷ more) new = (mid : List (N × X)) × (did.found ≡ lookup did.names old)
      × (did.left ≡ lookup did.names mid) × ChangesOnly eq did.names old mid × CacheRun eq mid more new

  -- Before the first call on this tenant, the tenant is `old`, and after the last call it is `new`. Between two calls
  -- on this tenant, the tenant does not change.
  abbrev pub Chain : N → Option X → List (Did N X) → Option X → Type 0
  Chain name old [] new = new ≡ old
  Chain name old (did ∷ more) new = ((did.names name ≡ true) × (did.found ≡ old) × Chain name did.left more new)
      ⊎ ((did.names name ≡ false) × Chain name old more new)

module _ {N X C R : Type 0} (named : C → N) (Does : C → Option X → R → Option X → Type 0) where
  -- The calls that name this tenant change the tenant from `old` to `new`, and return these answers.
  abbrev pub OwnRun : (N → Bool) → Option X → List C → List R → Option X → Type 0
  OwnRun own old [] [] new = new ≡ old
  OwnRun own old (call ∷ calls) (answer ∷ answers) new =
      ((own (named call) ≡ true) × ((mid : Option X) × Does call old answer mid
      × OwnRun own mid calls answers new))
      ⊎ ((own (named call) ≡ false) × OwnRun own old calls answers new)
  OwnRun own old [] (answer ∷ answers) new = ⊥
  OwnRun own old (call ∷ calls) [] new = ⊥
