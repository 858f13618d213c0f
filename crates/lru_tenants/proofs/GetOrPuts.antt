use Rattle.std.proofs.Common.{◌≡◌, ℕ, Bool, true, List, Option, Some, None, Result, Ok, Err, refl, sym, ap, ◌∙◌, subst}
use Rattle.std.proofs.lemmas.Option.{none-some}
use Rattle.std.specs.Cmp.{IsEquivalence}
use Rattle.std.specs.Map.{set_value}
use Rattle.std.specs.Prelude.{IfSome, option_map}
use Rattle.std.specs.declared.alloc.AllocError.{AllocError}
use Rattle.lru_limits.specs.Rules.{Rules, Offers}
use Rattle.lru_model.specs.GetOrInserts.{MakesNewest, got, inserted}
use Rattle.lru_model.specs.Lists.{first, after, front, lookup, lookup_entry, without}
use Rattle.lru_model.specs.State.{State}
use Rattle.lru_model.proofs.CallerLemmas.{lookup-entry}
use Rattle.lru_tenants.proofs.Changes.{on-written}
use Rattle.lru_tenants.specs.Tenants.{Changes}
use Rattle.lru_tenants.specs.GetOrPuts.{GetsOrPuts, newest_answer}
use Rattle.lru_tenants.specs.TenantRuns.{OfOpen}
use Rattle.lru_tenants.specs.declared.error.TenantError.{TenantError}
use Rattle.lru_tenants.specs.declared.error.TenantError.TheVariants.{NotOpen}

module _ {K V : Type 0} (names : K → Bool) where
  pub front-value : (xs : List (K × V)) (w : V) → lookup names xs ≡ Some w
      → option_map (λ pair. pair.1) (first (front names xs)) ≡ Some w
  front-value xs w found = go (lookup_entry names xs) (sym (lookup-entry names xs) ∙ found)
    where
      go : (o : Option (K × V)) → option_map (λ pair. pair.1) o ≡ Some w
          → option_map (λ pair. pair.1) (first (after o (without names xs))) ≡ Some w
      go None e = absurd (none-some w e)
      go (Some pair) e = e

module _ {K V L S : Type 0} (eq : K → K → Bool) (key : K) (answer : Result (Option V) TenantError) where
  abbrev pub GetsValue : State K V L S → Type 0
  GetsValue map = IfSome (lookup (eq key) map.pairs) (λ w. answer ≡ Ok (Some w))

  module _ (Does : State K V L S → Result (Option V) TenantError → Option (State K V L S) → Type 0)
      {N : Type 0} {same : N → N → Bool} {names : N → Bool}
      (one : (x y : N) → names x ≡ true → names y ≡ same x y) where
    pub record Ends (old new : List (N × State K V L S)) : Type 0 where
      pub on : Changes same names (OfOpen Does) old answer new
      pub not_open : lookup names old ≡ None → answer ≡ Err NotOpen
      pub there : IfSome (lookup names old) GetsValue

    pub ends-open : IsEquivalence same → (old : List (N × State K V L S)) (was left : State K V L S)
        → lookup names old ≡ Some was → Does was answer (Some left) → GetsValue was
        → Ends old (set_value names old left)
    ends-open laws old was left is does value = record {
      on = on-written one (OfOpen Does) answer laws old was left is does;
      not_open = λ none. absurd (none-some was (sym none ∙ is));
      there = subst (λ t. IfSome t GetsValue) (sym is) value;
    }

module _ {K V L S : Type 0} (rules : Rules K V L) (offers : Offers K V L K) (budget_of : L → ℕ) (eq : K → K → Bool)
    (hash_of : S → K → ℕ) (makes : V → Type 0) (key : K) (answer : Result (Option V) TenantError) where
  pub gets_value : (map : State K V L S) (new : Option (State K V L S))
      → GetsOrPuts rules offers budget_of eq hash_of makes key map answer new → GetsValue eq key answer map
  gets_value map new does = go does.left (lookup (eq key) map.pairs) refl does.result does.step does.said
    where
      go : (left : State K V L S) (o : Option V) → lookup (eq key) map.pairs ≡ o → (result : Result Bool AllocError)
          → MakesNewest rules offers eq hash_of makes key map result left → answer ≡ newest_answer result left
          → IfSome o (λ w. answer ≡ Ok (Some w))
      go left None e result step said = tt
      go left (Some w) e result (got v found ok is) said = said ∙ ap (λ r. newest_answer r left) ok
          ∙ ap (λ st. Ok (option_map (λ pair. pair.1) (first st.pairs))) is
          ∙ ap Ok (front-value (eq key) map.pairs w e)
      go left (Some w) e result (inserted none v may step) said = absurd (none-some w (sym none ∙ e))

  module _ {N : Type 0} {same : N → N → Bool} {names : N → Bool}
      (one : (x y : N) → names x ≡ true → names y ≡ same x y) where
    pub ends : IsEquivalence same → (old : List (N × State K V L S)) (was left : State K V L S)
        → lookup names old ≡ Some was → GetsOrPuts rules offers budget_of eq hash_of makes key was answer (Some left)
        → Ends eq key answer (GetsOrPuts rules offers budget_of eq hash_of makes key) one old (set_value names old left)
    ends laws old was left is does = ends-open eq key answer (GetsOrPuts rules offers budget_of eq hash_of makes key)
        one laws old was left is does (gets_value was (Some left) does)
