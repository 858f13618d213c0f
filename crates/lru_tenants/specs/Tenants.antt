-- What a call on one tenant does to the list of all tenants. The list has each tenant's name, and what is kept for the
-- tenant.
--     `eq x y`: whether x and y are the same name.
--     `names name`: whether the call names the tenant of this name.
use Rattle.std.specs.Prelude.{◌≡◌, Bool, true, false, List, Option}
use Rattle.lru_model.specs.Lists.{lookup}

module _ {N X : Type 0} where
  -- the call changes at most the tenant that it names
  pub record ChangesOnly (eq : N → N → Bool) (names : N → Bool) (old new : List (N × X)) : Type 0 where
    -- if the call names the tenant x, the call names exactly the tenants whose names equal x
    pub one : (x y : N) → names x ≡ true → names y ≡ eq x y
    pub others : (other : N) → names other ≡ false → lookup (eq other) new ≡ lookup (eq other) old

  -- The call changes the named tenant as `Does` says, and no other tenant. `Does` gets `None` for a tenant that is not
  -- open.
  abbrev pub Changes : {R : Type 0} → (N → N → Bool) → (N → Bool) → (Option X → R → Option X → Type 0) → List (N × X)
      → R → List (N × X) → Type 0
  Changes eq names Does old answer new =
      Does (lookup names old) answer (lookup names new) × ChangesOnly eq names old new
