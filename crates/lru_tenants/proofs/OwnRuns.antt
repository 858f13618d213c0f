-- A run of calls on a cache is a run of each tenant.
use Rattle.std.proofs.Common.{◌≡◌, ℕ, Bool, true, false, List, [], ◌∷◌, ◌++◌, Option, refl, sym, subst, ap, ◌∙◌, inl, inr}
use Rattle.std.specs.List.{All}
use Rattle.std.proofs.lemmas.List.Elements.{All-head, All-tail}
use Rattle.std.proofs.lemmas.Map.Views.{IfSome-lookup_from_All}
use Rattle.lru_limits.specs.Rules.{Rules, Offers}
use Rattle.lru_model.specs.Lists.{lookup}
use Rattle.lru_model.specs.State.{State}
use Rattle.lru_tenants.proofs.Changes.{same-tenant}
use Rattle.lru_tenants.specs.Cache.{Cache, IsTenant}
use Rattle.lru_tenants.specs.Isolation.{Did, CacheRun, Chain}
use Rattle.lru_tenants.specs.TenantRuns.{named, TenantStep, CacheStep, IsRun, IsOwnRun}
use Rattle.lru_tenants.specs.declared.call.TenantAnswer.{TenantAnswer}
use Rattle.lru_tenants.specs.declared.call.TenantCall.{TenantCall}

pub chain : {N X : Type 0} (eq : N → N → Bool) (name : N) (dids : List (Did N X)) (old new : List (N × X))
    → CacheRun eq old dids new → Chain name (lookup (eq name) old) dids (lookup (eq name) new)
chain eq name [] old new same = ap (lookup (eq name)) same
chain eq name (did ∷ more) old new (mid, found, left, only, run) =
    go (did.names name) refl (chain eq name more mid new run)
  where
    go : (is : Bool) → did.names name ≡ is → Chain name (lookup (eq name) mid) more (lookup (eq name) new)
        → Chain name (lookup (eq name) old) (did ∷ more) (lookup (eq name) new)
    go true e rest = inl (
      e,
      found ∙ same-tenant only.one name e old,
      subst (λ t. Chain name t more (lookup (eq name) new)) (sym (left ∙ same-tenant only.one name e mid)) rest,
    )
    go false e rest = inr (e, subst (λ t. Chain name t more (lookup (eq name) new)) (only.others name e) rest)

pub stays-by-others : {N X : Type 0} (eq : N → N → Bool) (name : N) (dids : List (Did N X)) (old new : List (N × X))
    → CacheRun eq old dids new → All (λ did. did.names name ≡ false) dids
    → lookup (eq name) new ≡ lookup (eq name) old
stays-by-others eq name [] old new same all = ap (lookup (eq name)) same
stays-by-others eq name (did ∷ more) old new (mid, found, left, only, run) all =
    stays-by-others eq name more mid new run (All-tail (λ did. did.names name ≡ false) did more all)
    ∙ only.others name (All-head (λ did. did.names name ≡ false) did more all)

module _ {N K V L S : Type 0} (rules : Rules K V L) (offers : Offers K V L K) (cost : K → V → ℕ)
    (account budget_of : L → ℕ) (eq : K → K → Bool) (hash_of : S → K → ℕ) (fresh : Cache N K V L S → ℕ → State K V L S)
    (same : N → N → Bool) where
  abbrev Step : Cache N K V L S → TenantCall N K V → TenantAnswer V → Cache N K V L S → Type 0
  Step = CacheStep rules offers cost account budget_of eq hash_of fresh same

  abbrev Goes : Cache N K V L S → List (TenantCall N K V) → List (TenantAnswer V) → Cache N K V L S → Type 0
  Goes = IsRun rules offers cost account budget_of eq hash_of fresh same

  pub run-push : (calls : List (TenantCall N K V)) (answers : List (TenantAnswer V)) (call : TenantCall N K V)
      (answer : TenantAnswer V) (old mid new : Cache N K V L S) → Goes old calls answers mid
      → Step mid call answer new → Goes old (calls ++ call ∷ []) (answers ++ answer ∷ []) new
  run-push [] [] call answer old mid new is step =
      (new, subst (λ cache. Step cache call answer new) is step, refl)
  run-push (other ∷ calls) (said ∷ answers) call answer old mid new (next, first, run) step =
      (next, first, run-push calls answers call answer next mid new run step)
  run-push [] (said ∷ answers) call answer old mid new run step = absurd run
  run-push (other ∷ calls) [] call answer old mid new run step = absurd run

  module _ (first : Cache N K V L S) (name : N) where
    abbrev Own : Option (State K V L S) → List (TenantCall N K V) → List (TenantAnswer V) → Option (State K V L S)
        → Type 0
    Own = IsOwnRun rules offers cost account budget_of eq hash_of fresh same first (λ n. same n name)

    pub own-run : (calls : List (TenantCall N K V)) (answers : List (TenantAnswer V)) (old new : Cache N K V L S)
        → old ≡ record first { tenants = old.tenants } → Goes old calls answers new
        → Own (lookup (same name) old.tenants) calls answers (lookup (same name) new.tenants)
    own-run [] [] old new is run = ap (λ cache. lookup (same name) cache.tenants) run
    own-run [] (said ∷ answers) old new is run = absurd run
    own-run (other ∷ calls) [] old new is run = absurd run
    own-run (call ∷ calls) (answer ∷ answers) old new is (mid, ((rest, (does, only)), kept), run) =
        go (same (named call) name) refl
        (own-run calls answers mid new (rest ∙ ap {A = Cache N K V L S} (λ cache. record cache { tenants = mid.tenants }) is) run)
      where
        Does : Cache N K V L S → (N → Bool) → Type 0
        Does cache names = TenantStep rules offers cost account budget_of eq hash_of fresh same cache call
            (lookup names old.tenants) answer (lookup names mid.tenants)

        go : (b : Bool) → same (named call) name ≡ b
            → Own (lookup (same name) mid.tenants) calls answers (lookup (same name) new.tenants)
            → Own (lookup (same name) old.tenants) (call ∷ calls) (answer ∷ answers) (lookup (same name) new.tenants)
        go true e later = inl (
          e,
          (
            lookup (same name) mid.tenants,
            (
              old.tenants,
              same-tenant only.one name e old.tenants,
              subst (Does (record first { tenants = old.tenants })) (λ i y. only.one name y e i)
                  (subst (λ cache. Does cache (same (named call))) is does),
              IfSome-lookup_from_All (IsTenant eq cost account budget_of) (same name) mid.tenants kept,
            ),
            later,
          ),
        )
        go false e later = inr (
          e,
          subst (λ t. Own t calls answers (lookup (same name) new.tenants)) (only.others name e) later,
        )
