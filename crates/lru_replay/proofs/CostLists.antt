use Rattle.std.proofs.Common.{◌≡◌, ℕ, zero, suc, ◌+◌, ◌-◌, ◌<◌, Bool, true, false, cond, List, [], ◌∷◌, length}
use Rattle.std.proofs.Common.{Some, sum_by, refl, sym, ap, ◌∙◌, arith, inl, inr}
use Rattle.std.proofs.lemmas.Bool.{lt-ltb, le-ltb, lt-leb, le-leb, cases_lt}
use Rattle.std.proofs.lemmas.List.Recursion.{is_sum_by}
use Rattle.std.specs.List.{AllByRecursion}
use Rattle.std.specs.Prelude.{nat_le}
use Rattle.lru_limits.specs.Budget.{Budget, by_weight}
use Rattle.lru_model.proofs.CallerLemmas.{length-without_last}
use Rattle.lru_model.specs.Lists.{last, without_last, lookup_entry, without, keys_of}
use Rattle.lru_model.specs.State.{Contents, notified_of, pop, trim, trim_from}
use Rattle.lru_theory.specs.Budgets.{affordable}
use Rattle.lru_theory.proofs.Affordable.{spent, affords_all}

pub fewer : {X : Type 0} (cost : X → ℕ) (n : ℕ) (xs : List X) → n < spent cost xs
    → affordable cost n (without_last xs) ≡ affordable cost n xs
fewer cost n [] over = refl
fewer cost n (x ∷ []) over = rw (lt-leb (cost x) n (omega (arith, over))) refl
fewer cost n (x ∷ y ∷ xs) over = elim (cases_lt n (cost x)) [
  | inl dear ↦ rw (lt-leb (cost x) n dear) refl
  | inr cheap ↦ rw (le-leb (cost x) n cheap)
      (ap (λ ks. x ∷ ks) (fewer cost (n - cost x) (y ∷ xs) (omega (arith, over, cheap))))
]

pub spent_is : {X : Type 0} (cost : X → ℕ) (xs : List X) → spent cost xs ≡ sum_by cost xs
spent_is cost xs = is_sum_by (spent cost) cost refl (λ _ _. refl) xs

module _ {K V : Type 0} (weight : K → V → ℕ) where
  abbrev pub worth : K × V → ℕ
  worth pair = weight pair.0 pair.1

  pub spent_without : (test : K → Bool) (pairs : List (K × V)) (p : K × V) → lookup_entry test pairs ≡ Some p
      → spent worth pairs ≡ worth p + spent worth (without test pairs)
  spent_without test [] p e = absurd cc
  spent_without test (x ∷ pairs) p e = go (test x.0) e (spent_without test pairs p)
    where
      go : (b : Bool) → cond b (Some x) (lookup_entry test pairs) ≡ Some p
          → (lookup_entry test pairs ≡ Some p → spent worth pairs ≡ worth p + spent worth (without test pairs))
          → worth x + spent worth pairs ≡ worth p + spent worth (cond b pairs (x ∷ without test pairs))
      go true e later = grind (arith, e)
      go false e later = omega (arith, later e)

  module _ (n : ℕ) where
    abbrev pub spending : ℕ → Budget
    spending sum = record { limit = n; cost = sum }

    abbrev pub holding : List (K × V) → Contents K V Budget
    holding pairs = record { pairs = pairs; limiter = spending (spent worth pairs) }

    told_last : (more : ℕ) (pair : K × V) (pairs : List (K × V))
        → notified_of (by_weight weight) (last (pair ∷ pairs)) (spending (more + spent worth (pair ∷ pairs)))
        ≡ spending (more + spent worth (without_last (pair ∷ pairs)))
    told_last more pair [] = ap spending (omega arith)
    told_last more pair (next ∷ pairs) =
        ap (λ sum. notified_of (by_weight weight) (last (next ∷ pairs)) (spending sum)) (omega arith)
        ∙ told_last (more + worth pair) next pairs
        ∙ ap spending (omega arith)

    pub popped : (more sum rest : ℕ) (pair : K × V) (pairs : List (K × V)) → sum ≡ more + spent worth (pair ∷ pairs)
        → more + spent worth (without_last (pair ∷ pairs)) ≡ rest
        → pop (by_weight weight) (record { pairs = pair ∷ pairs; limiter = spending sum })
        ≡ record { pairs = without_last (pair ∷ pairs); limiter = spending rest }
    popped more sum rest pair pairs before after = ap (λ s. record { pairs = without_last (pair ∷ pairs); limiter = s })
        (ap (λ s. notified_of (by_weight weight) (last (pair ∷ pairs)) (spending s)) before
        ∙ told_last more pair pairs ∙ ap spending after)

    trimmed_from : (count : ℕ) (pairs : List (K × V)) → length pairs ≡ count
        → trim_from (by_weight weight) count (holding pairs) ≡ holding (affordable worth n pairs)
    trimmed_from zero [] e = refl
    trimmed_from zero (x ∷ pairs) e = absurd (omega (arith, e))
    trimmed_from (suc count) [] e = absurd (omega (arith, e))
    trimmed_from (suc count) (x ∷ pairs) e = elim (cases_lt n (spent worth (x ∷ pairs))) [
      | inl over ↦ rw (lt-ltb n (spent worth (x ∷ pairs)) over)
          (ap (trim_from (by_weight weight) count)
          (popped 0 (spent worth (x ∷ pairs)) (spent worth (without_last (x ∷ pairs))) x pairs
          (omega arith) (omega arith))
          ∙ trimmed_from count (without_last (x ∷ pairs)) (omega (arith, length-without_last (x ∷ pairs), e))
          ∙ ap holding (fewer worth n (x ∷ pairs) over))
      | inr within ↦ rw (le-ltb n (spent worth (x ∷ pairs)) within)
          (ap holding (sym (affords_all worth n (x ∷ pairs) within)))
    ]

    pub trimmed_is : (pairs : List (K × V)) → trim (by_weight weight) (holding pairs) ≡ holding (affordable worth n pairs)
    unfolding trim
    trimmed_is pairs = trimmed_from (length pairs) pairs refl

  module _ (cost : K → ℕ) where
    abbrev pub Each : List (K × V) → Type 0
    Each = AllByRecursion (λ pair. weight pair.0 pair.1 ≡ cost pair.0)

    pub each_found : (test : K → Bool) (pairs : List (K × V)) (p : K × V) → lookup_entry test pairs ≡ Some p → Each pairs
        → worth p ≡ cost p.0
    each_found test [] p e each = absurd cc
    each_found test (x ∷ pairs) p e each = go (test x.0) e (λ found. each_found test pairs p found each.1)
      where
        go : (b : Bool) → cond b (Some x) (lookup_entry test pairs) ≡ Some p
            → (lookup_entry test pairs ≡ Some p → worth p ≡ cost p.0) → worth p ≡ cost p.0
        go true e later = grind (arith, e, each.0)
        go false e later = later e

    pub each_without : (test : K → Bool) (pairs : List (K × V)) → Each pairs → Each (without test pairs)
    each_without test [] each = tt
    each_without test (x ∷ pairs) each = go (test x.0) (each_without test pairs each.1)
      where
        go : (b : Bool) → Each (without test pairs) → Each (cond b pairs (x ∷ without test pairs))
        go true others = each.1
        go false others = (each.0, others)

    pub each_spent : (pairs : List (K × V)) → Each pairs → spent worth pairs ≡ spent cost (keys_of pairs)
    each_spent [] each = refl
    each_spent (x ∷ pairs) each = omega (arith, each.0, each_spent pairs each.1)

    pub each_afforded : (n : ℕ) (pairs : List (K × V)) → Each pairs → Each (affordable worth n pairs)
        × (keys_of (affordable worth n pairs) ≡ affordable cost n (keys_of pairs))
    each_afforded n [] each = (tt, refl)
    each_afforded n (x ∷ pairs) each =
        rw (← each.0) (go (nat_le (worth x) n) (each_afforded (n - worth x) pairs each.1))
      where
        rest : List (K × V)
        rest = affordable worth (n - worth x) pairs

        go : (b : Bool) → Each rest × (keys_of rest ≡ affordable cost (n - worth x) (keys_of pairs))
            → Each (cond b (x ∷ rest) [])
            × (keys_of (cond b (x ∷ rest) []) ≡ cond b (x.0 ∷ affordable cost (n - worth x) (keys_of pairs)) [])
        go true ih = ((each.0, ih.0), ap (λ ks. x.0 ∷ ks) ih.1)
        go false ih = (tt, refl)
