use Rattle.std.proofs.Common.{◌≡◌, ℕ, Bool, List, sym, subst}
use Rattle.lru_limits.specs.Laws.{IsLookup}
use Rattle.lru_model.specs.Calls.{promoted}
use Rattle.lru_model.proofs.CallerLemmas.{promoted_is_map, promoted-summed}
use Rattle.lru_model.specs.State.{State}
use Rattle.lru_tenants.specs.Cache.{IsTenant}

module _ {K V L S Q : Type 0} {names : Q → K → Bool} {eq : K → K → Bool} {query_input : Q → List (List ℕ)}
    {key_input : K → List (List ℕ)} (looks_up : IsLookup names eq query_input key_input) (q : Q)
    (cost : K → V → ℕ) (account budget : L → ℕ) where
  pub promoted_is_tenant : (map : State K V L S) → IsTenant eq cost account budget map
      → IsTenant eq cost account budget (promoted (names q) map)
  promoted_is_tenant map is = record {
    map = promoted_is_map looks_up q map is.map;
    sum = promoted-summed (names q) map cost account is.sum;
    within = is.within;
    small = is.small;
  }

  pub promoted-tenant : (map new : State K V L S) → new ≡ promoted (names q) map → IsTenant eq cost account budget map
      → IsTenant eq cost account budget new
  promoted-tenant map new turned is =
      subst (IsTenant eq cost account budget) (sym turned) (promoted_is_tenant map is)
