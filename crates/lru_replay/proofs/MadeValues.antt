-- A get that inserts, if its closure can return only one value.
use Rattle.std.proofs.Common.{◌≡◌, ℕ, Bool, Result, Ok, subst}
use Rattle.std.specs.declared.alloc.AllocError.{AllocError}
use Rattle.lru_limits.specs.Rules.{Rules, Offers}
use Rattle.lru_model.specs.GetOrInserts.{MakesNewest, got, inserted}
use Rattle.lru_model.specs.State.{State}

module _ {K V S H I : Type 0} {rules : Rules K V S} {offers : Offers K V S I} {names : I → K → Bool}
    {hash_of : H → K → ℕ} {makes : V → Type 0} {key : I} {old new : State K V S H} (value : V)
    (same : (v : V) → makes v → v ≡ value) where
  pub made-value : {result : Result Bool AllocError} → MakesNewest rules offers names hash_of makes key old result new
      → MakesNewest rules offers names hash_of (λ v. v ≡ value) key old result new
  made-value (got w there is after) = got w there is after
  made-value (inserted absent v made insert) = inserted absent v (same v made) insert

  pub made-flag : (flag there : Bool) → flag ≡ there
      → MakesNewest rules offers names hash_of makes key old (Ok flag) new
      → MakesNewest rules offers names hash_of (λ v. v ≡ value) key old (Ok there) new
  made-flag flag there is h =
      subst (λ b. MakesNewest rules offers names hash_of (λ v. v ≡ value) key old (Ok b) new) is (made-value h)
