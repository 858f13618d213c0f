-- What a put of a response does.
use Rattle.std.specs.Prelude.{◌≡◌, ◌⊎◌, ℕ, Bool, List, length, Option, Some, None, Result, Err, string_bytes, string_eq}
use Rattle.std.specs.declared.string.String.{String}
use Rattle.std.specs.declared.alloc.Global.{Global}
use Rattle.lru_limits.specs.Budget.{Budget}
use Rattle.lru_limits.specs.Rules.{Rules, Offers}
use Rattle.lru_model.specs.Lists.{without}
use Rattle.lru_tenants.specs.Cache.{Cache, On}
use Rattle.lru_tenants.specs.Counting.{CountsPut}
use Rattle.lru_tenants.specs.TenantRuns.{OfOpen, Puts}
use Rattle.lru_tenants.specs.declared.counting.Counting.{Counting}
use Rattle.lru_tenants.specs.declared.error.TenantError.{TenantError}
use Rattle.lru_tenants.specs.declared.error.TenantError.TheVariants.{Memory}
use Rattle.example_responses.specs.LookUps.{Host}
use Rattle.example_responses.specs.declared.cache.Response.{Response}

-- If memory ran out for the copy of the path, nothing changed. Otherwise the call did what `CountsPut` says, with this
-- copy as the key.
abbrev pub PutsPath : {N S : Type 0} → Rules (String Global) Response (Counting Budget)
    → Offers (String Global) Response (Counting Budget) (String Global) → (Counting Budget → ℕ)
    → (S → String Global → ℕ) → (N → N → Bool) → (N → Bool) → List ℕ → Response
    → Cache N (String Global) Response (Counting Budget) S → Result Bool TenantError
    → Cache N (String Global) Response (Counting Budget) S → Type 0
PutsPath rules offers budget_of hash_of eq host path response old answer new =
    ((key : String Global) × (string_bytes key ≡ path)
    × On eq host (OfOpen (CountsPut (Puts rules offers budget_of string_eq hash_of key response) (string_eq key)))
    old answer new)
    ⊎ ((answer ≡ Err Memory) × (new ≡ old))

-- how many responses the host has for paths other than the named path
abbrev pub others : {K S : Type 0} → (K → Bool) → Option (Host K S) → ℕ
others names None = 0
others names (Some map) = length (without names map.pairs)
