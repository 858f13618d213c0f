use Rattle.std.proofs.Common.{◌≡◌, ◌+◌, ◌-◌, ◌*◌, ◌^◌, ◌≤◌, ◌<◌, ℕ, Bool, false, List, [], ◌∷◌, Option, Some, None}
use Rattle.std.proofs.Common.{refl, sym, ap, ◌∙◌, arith, sum_by, length}
use Rattle.std.specs.List.{All}
use Rattle.std.specs.Map.{lookup, remove_entry, set_value, values_of}
use Rattle.std.specs.Option.{option_map, unwrap_or}
use Rattle.std.specs.Prelude.{IfSome}
use Rattle.std.proofs.lemmas.List.Elements.{All-cons, All-head, All-tail, All-weaker}
use Rattle.std.proofs.lemmas.List.{length-map}
use Rattle.std.proofs.lemmas.List.Sums.{sum_by-cons}
use Rattle.std.proofs.lemmas.Map.Entries.{sum_by-set_value, sum_by-remove_entry}
use Rattle.std.proofs.lemmas.Map.Views.{All-map-remove_entry, All-values-set_value}
use Rattle.lru_model.specs.State.{State}
use Rattle.lru_tenants.specs.Cache.{Cache, IsTenant, is_above, is_over, budgets_with}
use Rattle.lru_tenants.specs.Inside.{Holds}

abbrev pub cache_of : {N K V L S : Type 0} → List (N × State K V L S) → S → Option ℕ → Cache N K V L S
cache_of tenants hasher limit = record { tenants = tenants; hasher = hasher; total_limit = limit }

pub not-above : (limit : Option ℕ) (sum : ℕ) → is_above limit sum ≡ false → IfSome limit (λ most. sum ≤ most)
not-above None sum e = tt
not-above (Some most) sum e = grind (arith, e)

pub not-above-less : (limit : Option ℕ) (sum less : ℕ) → is_above limit sum ≡ false → less ≤ sum
    → is_above limit less ≡ false
not-above-less None sum less e le = refl
not-above-less (Some most) sum less e le = grind (arith, e, le)

pub within-less : (limit : Option ℕ) (sum less : ℕ) → IfSome limit (λ most. sum ≤ most) → less ≤ sum
    → IfSome limit (λ most. less ≤ most)
within-less None sum less within le = tt
within-less (Some most) sum less within le = omega (arith, within, le)

pub sum-small : {X : Type 0} (f : X → ℕ) (bound : ℕ) (xs : List X) → All (λ x. f x < bound) xs
    → sum_by f xs + length xs ≤ length xs * bound
sum-small f bound [] all = omega arith
sum-small f bound (x ∷ xs) all = omega (
  arith,
  sum_by-cons f x xs,
  All-head (λ x. f x < bound) x xs all,
  sum-small f bound xs (All-tail (λ x. f x < bound) x xs all),
)

module _ {N K V L S : Type 0} {eq : K → K → Bool} {cost : K → V → ℕ} {account budget : L → ℕ} {sum : ℕ}
    {limit : Option ℕ} (old : List (N × State K V L S)) (kept : Holds eq cost account budget old sum limit) where
  pub sum-fits : length old < 2 ^ 64 → sum + 2 ^ 64 < 2 ^ 128
  sum-fits small = omega (
    arith,
    small,
    kept.sum,
    length-map old (λ e. e.1),
    sum-small (λ map. budget map.limiter) (2 ^ 64) (values_of old) (All-weaker (IsTenant eq cost account budget)
        (λ map. budget map.limiter < 2 ^ 64) (λ map is. is.small) (values_of old) kept.each),
  )

  module _ (names : N → Bool) where
    pub sum-removed : sum_by (λ map. budget map.limiter) (values_of (remove_entry names old))
        + unwrap_or (option_map (λ map. budget map.limiter) (lookup names old)) 0 ≡ sum
    sum-removed = omega (arith, kept.sum, sum_by-remove_entry (λ map. budget map.limiter) names old)

    sum-more : lookup names old ≡ None → (hasher : S) (own : ℕ)
        → sum + own ≡ budgets_with budget names own (cache_of old hasher limit)
    sum-more none hasher own = omega (
      arith,
      kept.sum,
      ap (λ o. unwrap_or (option_map (λ map. budget map.limiter) o) 0) none,
    )

    pub over-more : lookup names old ≡ None → (hasher : S) (own : ℕ) {over : Bool} → is_above limit (sum + own) ≡ over
        → is_over budget names own (cache_of old hasher limit) ≡ over
    over-more none hasher own is = ap (is_above limit) (sym (sum-more none hasher own)) ∙ is

    pub kept-removed : (next : ℕ) → next + unwrap_or (option_map (λ map. budget map.limiter) (lookup names old)) 0 ≡ sum
        → Holds eq cost account budget (remove_entry names old) next limit
    kept-removed next is = record {
      each = All-map-remove_entry names (λ e. e.1) (IsTenant eq cost account budget) old kept.each;
      sum = omega (arith, is, sum-removed);
      within = not-above-less limit sum next kept.within (omega (arith, is));
    }

    module _ (was : State K V L S) (there : lookup names old ≡ Some was) where
      pub own-within : budget was.limiter ≤ sum
      own-within = omega (
        arith,
        sum-removed,
        ap (λ o. unwrap_or (option_map (λ map. budget map.limiter) o) 0) there,
      )

      pub sum-with : (hasher : S) (less own : ℕ) → less ≡ budget was.limiter
          → sum - less + own ≡ budgets_with budget names own (cache_of old hasher limit)
      sum-with hasher less own is =
          ap (λ n. sum - n + own) is
          ∙ ap (λ n. n - budget was.limiter + own) kept.sum
          ∙ ap (λ n. sum_by (λ map. budget map.limiter) (values_of old) - n + own)
          (sym (ap (λ o. unwrap_or (option_map (λ map. budget map.limiter) o) 0) there))

      module _ (left : State K V L S) where
        pub sum-written : sum_by (λ map. budget map.limiter) (values_of (set_value names old left))
            + budget was.limiter ≡ sum + budget left.limiter
        sum-written = sum_by-set_value (λ map. budget map.limiter) names old was left there
            ∙ ap (λ n. n + budget left.limiter) (sym kept.sum)

        pub kept-rebudgeted : IsTenant eq cost account budget left → (next : ℕ) → next + budget was.limiter
            ≡ sum + budget left.limiter → is_above limit next ≡ false
            → Holds eq cost account budget (set_value names old left) next limit
        kept-rebudgeted is next same within = record {
          each = All-values-set_value names (IsTenant eq cost account budget) old left kept.each is;
          sum = omega (arith, same, sum-written);
          within = within;
        }

        pub kept-written : IsTenant eq cost account budget left → budget left.limiter ≡ budget was.limiter
            → Holds eq cost account budget (set_value names old left) sum limit
        kept-written is same = kept-rebudgeted is sum (omega (arith, same)) kept.within

        pub same-sum : budget left.limiter ≡ budget was.limiter
            → sum_by (λ map. budget map.limiter) (values_of (set_value names old left))
            ≡ sum_by (λ map. budget map.limiter) (values_of old)
        same-sum same = omega (arith, same, sum-written, kept.sum)

  pub kept-opened : (name : N) (own : State K V L S) → IsTenant eq cost account budget own
      → (next : ℕ) → next ≡ sum + budget own.limiter → is_above limit next ≡ false
      → Holds eq cost account budget ((name, own) ∷ old) next limit
  kept-opened name own is next e within = record {
    each = All-cons (IsTenant eq cost account budget) own (values_of old) is kept.each;
    sum = omega (arith, e, kept.sum, sum_by-cons (λ map. budget map.limiter) own (values_of old));
    within = within;
  }
