-- What counted calls do, and a limiter that stores the counts of its map.
--     `rules`, `terms`: the `Rules` and `Terms` of the limiter inside.
use Rattle.std.specs.Prelude.{◌≡◌, ℕ, Bool, true, false, Option, Some, is_some, Result, Ok, Err}
use Rattle.std.specs.Result.{result_map_both}
use Rattle.std.proofs.Common.{ap}
use Rattle.lru_caches.specs.Counted.{looked_up, inserted, evicted, zeros}
use Rattle.lru_caches.specs.declared.counted.Counts.{Counts}
use Rattle.lru_limits.specs.Admissions.{Terms, offers_of}
use Rattle.lru_limits.specs.Budget.{IsBudgeted}
use Rattle.lru_limits.specs.Laws.{IsAccount}
use Rattle.lru_limits.specs.Rules.{Rules}
use Rattle.lru_limits.specs.Stores.{ReturnsPairIf, rules_at}
use Rattle.lru_model.specs.Calls.{promoted}
use Rattle.lru_model.specs.Lists.{lookup}
use Rattle.lru_model.specs.State.{State}
use Rattle.lru_tenants.specs.Cache.{Cache, IsTenant, AreTenants, with_limiter}
use Rattle.lru_tenants.specs.declared.counting.Counting.{Counting}
use Rattle.lru_tenants.specs.declared.error.TenantError.{TenantError}

module _ {L : Type 0} where
  abbrev pub with_inside : Counting L → L → Counting L
  with_inside s limiter = record s { limiter = limiter }

module _ {K V L : Type 0} where
  -- the rules of the limiter inside; no callback changes the counts
  abbrev pub counting_rules : Rules K V L → Rules K V (Counting L)
  counting_rules rules = record {
    is_over_the_limit = λ s. rules.is_over_the_limit s.limiter;
    on_removed = λ s. (rules_at (λ w. w.limiter) (with_inside s) rules).on_removed s;
    on_cleared = λ s. with_inside s (rules.on_cleared s.limiter);
    on_grow = λ s. (rules_at (λ w. w.limiter) (with_inside s) rules).on_grow s;
  }

  abbrev pub counting_terms : Terms K V L → Terms K V (Counting L)
  counting_terms terms = record {
    accepts = λ s. terms.accepts s.limiter;
    admit = λ s n k v. with_inside s (terms.admit s.limiter n k v);
    accepts_in_place = λ s. terms.accepts_in_place s.limiter;
    admit_in_place = λ s n k v w. with_inside s (terms.admit_in_place s.limiter n k v w);
  }

  -- the limiter inside and the outer limiter return the same pair for an offer
  gives-inside : (s t : Counting L) {accepts : Bool} {limiter : L} {k : K} {v : V} {given : Option (K × V)}
      → ReturnsPairIf accepts (with_inside s limiter) k v t given → ReturnsPairIf accepts limiter k v t.limiter given
  gives-inside s t h = record { limiter = ap (λ t. t.limiter) h.limiter; pair = h.pair }

  module _ {rules : Rules K V L} {terms : Terms K V L} {account : L → ℕ} where
    pub counting-sums : {cost : K → V → ℕ} → IsAccount rules (offers_of terms) cost account
        → IsAccount (counting_rules rules) (offers_of (counting_terms terms)) cost (λ s. account s.limiter)
    counting-sums is = record {
      adds = λ s n i v t k w h. is.adds s.limiter n i v t.limiter k w (gives-inside s t h);
      refuses = λ s n i v t h. is.refuses s.limiter n i v t.limiter (gives-inside s t h);
      exchanges = λ s. is.exchanges s.limiter;
      takes_off = λ s. is.takes_off s.limiter;
      empties = λ s. is.empties s.limiter;
      keeps = λ s. is.keeps s.limiter;
    }

    pub counting-budgeted : {budget : L → ℕ} {made : ℕ → L} {rebudgeted : ℕ → L → L}
        → IsBudgeted rules terms account budget made rebudgeted
        → IsBudgeted (counting_rules rules) (counting_terms terms) (λ s. account s.limiter) (λ s. budget s.limiter)
        (λ b. record { limiter = made b; counts = zeros }) (λ b s. with_inside s (rebudgeted b s.limiter))
    counting-budgeted is = record {
      over = λ s. is.over s.limiter;
      fixed = record {
        offered = λ s n k v t given h. is.fixed.offered s.limiter n k v t.limiter given (gives-inside s t h);
        replaced = λ s. is.fixed.replaced s.limiter;
        removed = λ s. is.fixed.removed s.limiter;
        cleared = λ s. is.fixed.cleared s.limiter;
        grown = λ s. is.fixed.grown s.limiter;
      };
      refuses = λ s n k v refused. ap (with_inside s) (is.refuses s.limiter n k v refused);
      leaves = record { key = λ s. is.leaves.key s.limiter; value = λ s. is.leaves.value s.limiter };
      made_budget = is.made_budget;
      made_empty = is.made_empty;
      set_budget = λ b s. is.set_budget b s.limiter;
      set_keeps = λ b s. is.set_keeps b s.limiter;
    }

abbrev pub is_kept : {E : Type 0} → Result Bool E → Bool
is_kept (Ok kept) = kept
is_kept (Err e) = false

-- The counts after a get that inserts an absent key. If the key was there, the get counts a hit. Otherwise it counts a
-- miss, and an insert that evicted n entries.
abbrev pub got_or_put : {E : Type 0} → (found : Bool) → Result Bool E → ℕ → Counts → Counts
got_or_put true answer n counts = looked_up true counts
got_or_put false answer n counts = looked_up false (inserted answer n counts)

module _ {K V L S : Type 0} where
  abbrev pub with_counts : Counts → State K V (Counting L) S → State K V (Counting L) S
  with_counts counts map = with_limiter (record map.limiter { counts = counts }) map

  abbrev pub counted : (Counts → Counts) → State K V (Counting L) S → State K V (Counting L) S
  counted f map = with_counts (f map.limiter.counts) map

  abbrev pub IsCountingTenant : (K → K → Bool) → (K → V → ℕ) → (L → ℕ) → (L → ℕ) → State K V (Counting L) S → Type 0
  IsCountingTenant eq cost account budget = IsTenant eq cost (λ s. account s.limiter) (λ s. budget s.limiter)

  abbrev pub AreCountingTenants : {N : Type 0} → (K → K → Bool) → (K → V → ℕ) → (L → ℕ) → (L → ℕ)
      → Cache N K V (Counting L) S → Type 0
  AreCountingTenants eq cost account budget = AreTenants eq cost (λ s. account s.limiter) (λ s. budget s.limiter)

  abbrev pub SetsCounts : Counts → State K V (Counting L) S → Unit {0} → State K V (Counting L) S → Type 0
  SetsCounts counts old done new = new ≡ with_counts counts old

  abbrev pub TakesCounts : State K V (Counting L) S → Counts → State K V (Counting L) S → Type 0
  TakesCounts old taken new = (taken ≡ old.limiter.counts) × (new ≡ with_counts zeros old)

  abbrev pub CountsGet : (K → Bool) → State K V (Counting L) S → Option V → State K V (Counting L) S → Type 0
  CountsGet names old found new = (found ≡ lookup names old.pairs)
      × (new ≡ counted (looked_up (is_some found)) (promoted names old))

  abbrev pub CountsInsert : {E : Type 0} → (State K V (Counting L) S → Result Bool E → State K V (Counting L) S → Type 0)
      → (K → Bool) → State K V (Counting L) S → Result Bool E → State K V (Counting L) S → Type 0
  CountsInsert Inserts names old answer new = (left : State K V (Counting L) S) × Inserts old answer left
      × (new ≡ counted (inserted answer (evicted names old.pairs left.pairs)) left)

  abbrev pub CountsPut : (Puts : State K V (Counting L) S → Result Bool TenantError
      → Option (State K V (Counting L) S) → Type 0)
      → (K → Bool) → State K V (Counting L) S → Result Bool TenantError → Option (State K V (Counting L) S) → Type 0
  CountsPut Puts names old answer new = (left : State K V (Counting L) S) × Puts old answer (Some left)
      × (new ≡ Some (counted (inserted answer (evicted names old.pairs left.pairs)) left))

  -- a counted get that inserts an absent key; the answer says whether the key is there afterwards
  abbrev pub CountsGetOrInsert : {E : Type 0}
      → (Gets : State K V (Counting L) S → Result Bool E → State K V (Counting L) S → Type 0)
      → (K → Bool) → State K V (Counting L) S → Result Bool E → State K V (Counting L) S → Type 0
  CountsGetOrInsert Gets names old answer new = (left : State K V (Counting L) S) × Gets old answer left
      × (new ≡ counted (got_or_put (is_some (lookup names old.pairs)) answer (evicted names old.pairs left.pairs)) left)

  -- a counted get that inserts an absent key; the answer is the value, if the key is there afterwards
  abbrev pub CountsGetOrPut : (Gets : State K V (Counting L) S → Result (Option V) TenantError
      → Option (State K V (Counting L) S) → Type 0)
      → (K → Bool) → State K V (Counting L) S → Result (Option V) TenantError → Option (State K V (Counting L) S)
      → Type 0
  CountsGetOrPut Gets names old answer new = (left : State K V (Counting L) S) × Gets old answer (Some left)
      × (new ≡ Some (counted (got_or_put (is_some (lookup names old.pairs)) (result_map_both is_some (λ e. e) answer)
      (evicted names old.pairs left.pairs)) left))
