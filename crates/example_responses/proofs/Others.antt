use Rattle.std.proofs.Common.{◌≡◌, ℕ, ◌-◌, Bool, length, Option, Some, None, Ok}
use Rattle.std.proofs.Common.{refl, sym, ap, ◌∙◌, arith, is_some, option_map}
use mir.Val.{bool_byte}
use Rattle.lru_caches.proofs.OtherEntries.{other-count}
use Rattle.lru_model.proofs.CallerLemmas.{lookup-entry}
use Rattle.lru_model.specs.Lists.{lookup, lookup_entry}
use Rattle.lru_tenants.specs.TenantRuns.{read_of}
use Rattle.example_responses.specs.LookUps.{Host}
use Rattle.example_responses.specs.Puts.{others}
use Rattle.example_responses.proofs.LookUps.{ok≢err, ok-same}

some-mapped : {A B : Type 0} (f : A → B) (o : Option A) → is_some (option_map f o) ≡ is_some o
some-mapped f None = refl
some-mapped f (Some x) = refl

module _ {K S : Type 0} (names : K → Bool) where
  pub others-counted : (host : Option (Host K S)) (entries : ℕ) (there : Bool)
      → read_of (λ map. length map.pairs) host ≡ Ok entries
      → read_of (λ map. is_some (lookup names map.pairs)) host ≡ Ok there
      → entries - bool_byte there ≡ others names host
  others-counted None entries there counts says = absurd (ok≢err (sym counts))
  others-counted (Some map) entries there counts says = omega (
    arith,
    ok-same counts,
    other-count names map.pairs there
        (sym (ok-same says) ∙ ap is_some (lookup-entry names map.pairs)
        ∙ some-mapped (λ p. p.1) (lookup_entry names map.pairs)),
  )
