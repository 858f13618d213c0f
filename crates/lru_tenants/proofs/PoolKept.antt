use Rattle.std.proofs.Common.{◌≡◌, ◌+◌, ◌-◌, ◌≤◌, ℕ, Bool, false, List, ◌∷◌, Some, None, sym, ap, ◌∙◌, subst, arith}
use Rattle.std.specs.List.{All}
use Rattle.std.specs.Map.{lookup, remove_entry, set_value, values_of}
use Rattle.std.specs.Option.{option_map, unwrap_or}
use Rattle.std.proofs.lemmas.List.Elements.{All-cons}
use Rattle.std.proofs.lemmas.List.Sums.{sum_by-cons}
use Rattle.std.proofs.lemmas.Map.Entries.{sum_by-set_value, sum_by-remove_entry}
use Rattle.std.proofs.lemmas.Map.Views.{All-map-remove_entry, All-values-set_value}
use Rattle.std.specs.Prelude.{nat_lt}
use Rattle.std.proofs.lemmas.Bool.Decides.{nat_tests}
use Rattle.lru_model.proofs.CallerLemmas.{no_pair, without_none}
use Rattle.lru_model.specs.State.{State}
use Rattle.lru_tenants.proofs.Changes.{found-all}
use Rattle.lru_tenants.specs.Inside.{HoldsPool}
use Rattle.lru_tenants.specs.Pool.{Part, Pool, cost, IsPart, IsPool, total_cost, total_share, with_map}

abbrev pub pool_of : {N K V L S : Type 0} → List (N × Part K V L S) → ℕ → S → Pool N K V L S
pool_of tenants limit hasher = record { tenants = tenants; limit = limit; hasher = hasher }

module _ {N K V L S : Type 0} {eq : K → K → Bool} {costs : K → V → ℕ} {account budget : L → ℕ} {limit shares total : ℕ}
    (old : List (N × Part K V L S)) (kept : HoldsPool eq costs account budget old limit shares total) where
  pub is_pool : (hasher : S) → IsPool eq costs account budget (pool_of old limit hasher)
  is_pool hasher = record {
    each = kept.each;
    within = omega (arith, kept.cost, kept.within);
    shares = omega (arith, kept.share, kept.enough);
  }

  pub not-over : (share : ℕ) → share + shares ≤ limit → nat_lt limit (total_share old + share) ≡ false
  not-over share room = let low : total_share old + share ≤ limit = omega (arith, room, kept.share) in
      grind (arith, nat_tests)

  pub pool-opened : (name : N) (own : Part K V L S) → IsPart account eq costs budget limit own
      → account own.1.limiter ≡ 0 → (next : ℕ) → next ≡ shares + own.0 → next ≤ limit
      → HoldsPool eq costs account budget ((name, own) ∷ old) limit next total
  pool-opened name own is empty next more enough = record {
    each = All-cons (IsPart account eq costs budget limit) own (values_of old) is kept.each;
    share = omega (arith, more, kept.share, sum_by-cons (λ own. own.0) own (values_of old));
    enough = enough;
    cost = omega (arith, empty, kept.cost, sum_by-cons (cost account) own (values_of old));
    within = kept.within;
  }

  pub pool-absent : (names : N → Bool) → lookup names old ≡ None
      → HoldsPool eq costs account budget (remove_entry names old) limit shares total
  pool-absent names none = subst (λ l. HoldsPool eq costs account budget l limit shares total)
      (sym (without_none names old (no_pair names old none))) kept

  module _ (names : N → Bool) (was : Part K V L S) (there : lookup names old ≡ Some was) where
    pub own-part : IsPart account eq costs budget limit was
    own-part = found-all (IsPart account eq costs budget limit) names old was there kept.each

    cost-removed : total_cost account (remove_entry names old) + cost account was ≡ total
    cost-removed = omega (
      arith,
      kept.cost,
      sum_by-remove_entry (cost account) names old,
      ap (λ o. unwrap_or (option_map (cost account) o) 0) there,
    )

    share-removed : total_share (remove_entry names old) + was.0 ≡ shares
    share-removed = omega (
      arith,
      kept.share,
      sum_by-remove_entry (λ own. own.0) names old,
      ap (λ o. unwrap_or (option_map (λ own. own.0) o) 0) there,
    )

    pub own-cost : cost account was ≤ total
    own-cost = omega (arith, cost-removed)

    pub own-share : was.0 ≤ shares
    own-share = omega (arith, share-removed)

    pub pool-removed : HoldsPool eq costs account budget (remove_entry names old) limit (shares - was.0)
        (total - cost account was)
    pool-removed = record {
      each = All-map-remove_entry names (λ e. e.1) (IsPart account eq costs budget limit) old kept.each;
      share = omega (arith, share-removed);
      enough = omega (arith, kept.enough);
      cost = omega (arith, cost-removed);
      within = omega (arith, kept.within);
    }

    module _ (left : State K V L S) where
      pub cost-written : total_cost account (set_value names old (with_map left was)) + cost account was
          ≡ total + account left.limiter
      cost-written = sum_by-set_value (cost account) names old was (with_map left was) there
          ∙ ap (λ n. n + account left.limiter) (sym kept.cost)

      pub share-written : total_share (set_value names old (with_map left was)) ≡ shares
      share-written = omega (
        arith,
        kept.share,
        sum_by-set_value (λ own. own.0) names old was (with_map left was) there,
      )

      pub each-written : IsPart account eq costs budget limit (with_map left was)
          → All (IsPart account eq costs budget limit) (values_of (set_value names old (with_map left was)))
      each-written is =
          All-values-set_value names (IsPart account eq costs budget limit) old (with_map left was) kept.each is

      pub pool-written : IsPart account eq costs budget limit (with_map left was) → (next : ℕ)
          → next + cost account was ≡ total + account left.limiter → next ≤ limit
          → HoldsPool eq costs account budget (set_value names old (with_map left was)) limit shares next
      pool-written is next same within = record {
        each = each-written is;
        share = sym share-written;
        enough = kept.enough;
        cost = omega (arith, same, cost-written);
        within = within;
      }
