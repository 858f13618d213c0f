use Rattle.std.proofs.Common.{◌≡◌, Bool, true, false, List, Option, Some, None, Ok, is_some, refl, sym, ap, ◌∙◌}
use Rattle.std.proofs.lemmas.Bool.{true≢false}
use Rattle.std.specs.Option.{option_map}
use Rattle.lru_caches.proofs.Outcomes.{none_there}
use Rattle.lru_caches.specs.Counted.{looked_up}
use Rattle.lru_model.specs.Calls.{promoted}
use Rattle.lru_model.specs.Lists.{first, lookup}
use Rattle.lru_model.specs.State.{State}
use Rattle.lru_tenants.proofs.GetOrPuts.{front-value}
use Rattle.lru_tenants.specs.Counting.{counted, CountsGet}
use Rattle.lru_tenants.specs.TenantRuns.{IfOpen}
use Rattle.lru_tenants.specs.declared.counting.Counting.{Counting}

pub absent-newest : {K V : Type 0} (names : K → Bool) (xs : List (K × V)) (there : Bool)
    → there ≡ is_some (lookup names xs) → there ≡ false → lookup names xs ≡ None
absent-newest names xs there is gone = none_there (lookup names xs) (sym is ∙ gone)

module _ {K V L S : Type 0} (names : K → Bool) (own new : State K V (Counting L) S) where
  pub found-newest : (there : Bool) → there ≡ is_some (lookup names own.pairs) → there ≡ true
      → new ≡ counted (looked_up there) (promoted names own)
      → option_map (λ pair. pair.1) (first new.pairs) ≡ lookup names own.pairs
  found-newest there is found turned = ap (λ st. option_map (λ pair. pair.1) (first st.pairs)) turned
      ∙ go (lookup names own.pairs) refl (sym is ∙ found)
    where
      go : (o : Option V) → lookup names own.pairs ≡ o → is_some o ≡ true
          → option_map (λ pair. pair.1) (first (promoted names own).pairs) ≡ lookup names own.pairs
      go None e some = absurd (true≢false (sym some))
      go (Some v) e some = front-value names own.pairs v e ∙ sym e

  pub counts-get : (found : Option V) (there : Bool) → found ≡ lookup names own.pairs → is_some found ≡ there
      → new ≡ counted (looked_up there) (promoted names own)
      → IfOpen (CountsGet names) (Some own) (Ok found) (Some new)
  counts-get found there value same turned =
      (found, new, (value, turned ∙ ap (λ b. counted (looked_up b) (promoted names own)) (sym same)), refl, refl)
