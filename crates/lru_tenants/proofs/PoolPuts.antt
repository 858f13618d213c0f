use Rattle.std.proofs.Common.{◌≡◌, ◌≤◌, ◌<◌, ◌&&◌, ℕ, Bool, true, false, List, [], ◌∷◌, Option, Some, None, Result, Ok, Err, refl, sym}
use Rattle.std.proofs.Common.{ap, ◌∙◌, subst, arith, sum_by}
use Rattle.std.specs.Cmp.{IsEquivalence}
use Rattle.std.specs.List.{All}
use Rattle.std.specs.Map.{lookup, set_value}
use Rattle.std.proofs.lemmas.List.Elements.{All-head, All-tail}
use Rattle.lru_limits.specs.Rules.{Rules}
use Rattle.lru_model.specs.Calls.{PopOldest, Remove, left_of}
use Rattle.lru_model.specs.Lists.{IsFront, last, lookup_entry, without}
use Rattle.lru_model.specs.State.{State}
use Rattle.lru_model.specs.Theorems.{IsSummed, SaysWhether}
use Rattle.lru_model.proofs.Theorems.Sums.{total, total-is, total-least, split-least, split_named}
use Rattle.lru_tenants.proofs.Changes.{found-name, only-written, same-tenant, written}
use Rattle.lru_tenants.proofs.Pools.{evictions-spare, says-there, spared-same, spared-trans}
use Rattle.lru_tenants.proofs.Pops.{no-last}
use Rattle.lru_tenants.specs.Inside.{has_entries}
use Rattle.lru_tenants.specs.declared.error.TenantError.{TenantError}
use Rattle.lru_tenants.specs.declared.error.TenantError.TheVariants.{NotOpen}
use Rattle.lru_tenants.specs.Pool.{Part, Pool, PoolRun, Spared, SparesOthers, Evictions, has_key, with_map, PutsIfOpen}

module _ {N K V L S : Type 0} (account : L → ℕ) (eq : N → N → Bool) (names : N → Bool) where
  pub same-spares : (old new : Pool N K V L S)
      → ((other : N) → names other ≡ false → lookup (eq other) new.tenants ≡ lookup (eq other) old.tenants)
      → SparesOthers account eq names old new
  same-spares old new same other apart =
      subst (Spared account (lookup (eq other) old.tenants)) (sym (same other apart))
      (spared-same account (lookup (eq other) old.tenants))

  pub spares-trans : (old mid new : Pool N K V L S) → SparesOthers account eq names old mid
      → SparesOthers account eq names mid new → SparesOthers account eq names old new
  spares-trans old mid new first more other apart =
      spared-trans account (lookup (eq other) old.tenants) (lookup (eq other) mid.tenants)
      (lookup (eq other) new.tenants) (first other apart) (more other apart)

pub run-spares : {N K V L S : Type 0} (account : L → ℕ) (eq : N → N → Bool) (name : N) (calls : List (N → Bool))
    (old new : Pool N K V L S) → PoolRun account eq old calls new → All (λ names. names name ≡ false) calls
    → Spared account (lookup (eq name) old.tenants) (lookup (eq name) new.tenants)
run-spares account eq name [] old new same all =
    subst (λ pool. Spared account (lookup (eq name) old.tenants) (lookup (eq name) pool.tenants)) (sym same)
    (spared-same account (lookup (eq name) old.tenants))
run-spares account eq name (names ∷ more) old new (mid, spares, run) all =
    spared-trans account (lookup (eq name) old.tenants) (lookup (eq name) mid.tenants) (lookup (eq name) new.tenants)
    (spares name (All-head (λ names. names name ≡ false) names more all))
    (run-spares account eq name more mid new run (All-tail (λ names. names name ≡ false) names more all))

module _ {N K V L S : Type 0} (names : N → Bool)
    (does : Part K V L S → Pool N K V L S → Result Bool TenantError → Pool N K V L S → Type 0) (old : Pool N K V L S) where
  pub puts-open : (answer : Result Bool TenantError) (new : Pool N K V L S) (was : Part K V L S)
      → lookup names old.tenants ≡ Some was → does was old answer new
      → PutsIfOpen does (lookup names old.tenants) old answer new
  puts-open answer new was there done = subst (λ o. PutsIfOpen does o old answer new) (sym there) done

  pub puts-closed : lookup names old.tenants ≡ None
      → PutsIfOpen does (lookup names old.tenants) old (Err NotOpen) old
  puts-closed none = subst (λ o. PutsIfOpen does o old (Err NotOpen) old) (sym none) (refl, refl)

pub cost-falls : {K V L S : Type 0} (cost : K → V → ℕ) (account : L → ℕ) (old new : State K V L S)
    → IsSummed cost account old → IsSummed cost account new → IsFront new.pairs old.pairs
    → account new.limiter ≤ account old.limiter
cost-falls cost account old new was is front = omega (
  arith,
  was,
  is,
  total-is (λ p. cost p.0 p.1) old.pairs,
  total-is (λ p. cost p.0 p.1) new.pairs,
  total-least (λ p. cost p.0 p.1) new.pairs old.pairs front,
)

pub pops-some : {K V L S : Type 0} (rules : Rules K V L) (cost : K → V → ℕ) (account : L → ℕ) (old new : State K V L S)
    (popped : Option (K × V)) → IsSummed cost account old → 0 < account old.limiter
    → PopOldest rules old popped new → (gone : K × V) × (popped ≡ Some gone)
pops-some {K} {V} rules cost account old new popped was above pops = go (last old.pairs) refl pops.pair
  where
    go : (oldest : Option (K × V)) → last old.pairs ≡ oldest → popped ≡ left_of rules old.limiter oldest
        → (gone : K × V) × (popped ≡ Some gone)
    go None none is = absurd (omega (
      arith,
      above,
      was,
      ap (sum_by (λ p. cost p.0 p.1)) (no-last old.pairs none),
    ))
    go (Some pair) some is = (_, is)

pub remove-falls : {K V L S : Type 0} (rules : Rules K V L) (cost : K → V → ℕ) (account : L → ℕ) (names : K → Bool)
    (old new : State K V L S) (value : Option V) → IsSummed cost account old → IsSummed cost account new
    → Remove rules names old value new → account new.limiter ≤ account old.limiter
remove-falls rules cost account names old new value was is removed = omega (
  arith,
  was,
  is,
  total-is (λ p. cost p.0 p.1) old.pairs,
  total-is (λ p. cost p.0 p.1) new.pairs,
  ap (λ st. total (λ p. cost p.0 p.1) st.pairs) removed.state.is,
  split-least (λ p. cost p.0 p.1) old.pairs (lookup_entry names old.pairs) (without names old.pairs)
      (split_named (λ p. cost p.0 p.1) names old.pairs),
)

module _ {N K V L S : Type 0} {rules : Rules K V L} {account : L → ℕ} {eq : N → N → Bool} (laws : IsEquivalence eq)
    (names : N → Bool) (one : (x y : N) → names x ≡ true → names y ≡ eq x y) (old new : List (N × Part K V L S))
    (was : Part K V L S) (left : State K V L S) (there : lookup names old ≡ Some was) (limit : ℕ)
    (run : Evictions rules account eq limit new (set_value names old (with_map left was))) where
  pub put-spares : (other : N) → names other ≡ false
      → Spared account (lookup (eq other) old) (lookup (eq other) new)
  put-spares other apart = subst (λ o. Spared account o (lookup (eq other) new))
      ((only-written one laws old was (with_map left was) there).others other apart)
      (evictions-spare laws limit new (set_value names old (with_map left was)) run other)

  pub own-spared : Spared account (Some (with_map left was)) (lookup names new)
  own-spared = let (name, is) = found-name names old was there in
      let mid = set_value names old (with_map left was) in
      subst (λ o. Spared account o (lookup names new))
      (sym (same-tenant one name is mid) ∙ written one laws old was (with_map left was) there)
      (subst (Spared account (lookup (eq name) mid)) (sym (same-tenant one name is new))
      (evictions-spare laws limit new mid run name))

  pub put-there : (named : K → Bool) (kept : Bool) → SaysWhether rules named (Ok kept) left
      → (kept && has_entries (lookup names new)) ≡ has_key named (lookup names new)
  put-there named kept says = let (fin, spares, is) = own-spared in
      subst (λ o. (kept && has_entries o) ≡ has_key named o) (sym is)
      (says-there rules named kept left fin.1.pairs says spares.front)
