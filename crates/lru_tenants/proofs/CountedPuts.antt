use Rattle.std.proofs.Common.{◌≡◌, ℕ, Bool, true, false, List, Option, Some, None, Result, Ok, Err, is_some, refl, sym}
use Rattle.std.proofs.Common.{ap, ◌∙◌, cond, subst}
use Rattle.std.specs.Option.{option_map}
use Rattle.std.specs.declared.alloc.AllocError.{AllocError}
use Rattle.lru_caches.specs.Counted.{inserted, evicted}
use Rattle.lru_limits.specs.Rules.{Rules, Offers}
use Rattle.lru_model.proofs.CallerLemmas.{lookup-entry}
use Rattle.lru_model.specs.Inserts.{Insert}
use Rattle.lru_model.specs.Lists.{first, lookup, lookup_entry}
use Rattle.lru_model.specs.State.{State}
use Rattle.lru_model.specs.Theorems.{SaysWhether}
use Rattle.lru_tenants.specs.Counting.{counted, is_kept, CountsInsert, CountsPut}
use Rattle.lru_tenants.specs.TenantRuns.{put_answer, Puts}
use Rattle.lru_tenants.specs.declared.counting.Counting.{Counting}
use Rattle.lru_tenants.specs.declared.error.TenantError.{TenantError}

pub some-mapped : {A B : Type 0} (f : A → B) (o : Option A) → is_some (option_map f o) ≡ is_some o
some-mapped f None = refl
some-mapped f (Some x) = refl

pub some-entry : {K V : Type 0} (names : K → Bool) (pairs : List (K × V))
    → is_some (lookup names pairs) ≡ is_some (lookup_entry names pairs)
some-entry names pairs = ap is_some (lookup-entry names pairs) ∙ some-mapped (λ p. p.1) (lookup_entry names pairs)

pub kept-there : {K V L S : Type 0} (rules : Rules K V L) (names : K → Bool) (new : State K V L S)
    (done : Result Bool AllocError) → SaysWhether rules names done new
    → is_kept done ≡ is_some (lookup_entry names new.pairs)
kept-there rules names new (Ok true) (newest, within) =
    sym (ap (λ xs. is_some (lookup_entry names xs)) newest.first
    ∙ ap (λ b. is_some (cond b (Some newest.pair) (lookup_entry names newest.rest))) newest.named)
kept-there rules names new (Ok false) none = sym (ap is_some none)
kept-there rules names new (Err e) none = sym (ap is_some none)

pub newest-there : {K V L S : Type 0} (rules : Rules K V L) (names : K → Bool) (new : State K V L S)
    (done : Result Bool AllocError) → SaysWhether rules names done new → done ≡ Ok true
    → is_some (first new.pairs) ≡ true
newest-there rules names new done says is =
    let (newest, within) = subst (λ r. SaysWhether rules names r new) is says in
    ap (λ xs. is_some (first xs)) newest.first

module _ {K V L S : Type 0} (rules : Rules K V (Counting L)) (offers : Offers K V (Counting L) K) (budget_of : L → ℕ)
    (eq : K → K → Bool) (hash_of : S → K → ℕ) (key : K) (value : V) (old : State K V (Counting L) S) where
  pub counts-put : (done : Result Bool AllocError) (answer : Result Bool TenantError) (new : State K V (Counting L) S)
      → answer ≡ put_answer done → CountsInsert (Insert rules offers eq hash_of key value) (eq key) old done new
      → budget_of new.limiter.limiter ≡ budget_of old.limiter.limiter
      → CountsPut (Puts rules offers (λ s. budget_of s.limiter) eq hash_of key value) (eq key) old answer (Some new)
  counts-put done answer new said (left, inserts, is) budget = (
    left,
    record {
      left = left;
      result = done;
      inserts = inserts;
      budget = sym (ap (λ st. budget_of st.limiter.limiter) is) ∙ budget;
      said = said;
      is = refl;
    },
    ap Some (is ∙ ap (λ f. counted f left) (same done answer said)),
  )
    where
      same : (done : Result Bool AllocError) (answer : Result Bool TenantError) → answer ≡ put_answer done
          → inserted done (evicted (eq key) old.pairs left.pairs)
          ≡ inserted answer (evicted (eq key) old.pairs left.pairs)
      same (Ok b) answer said = ap (λ a. inserted a (evicted (eq key) old.pairs left.pairs)) (sym said)
      same (Err e) answer said = ap (λ a. inserted a (evicted (eq key) old.pairs left.pairs)) (sym said)
