-- A trace of texts and the trace of their numbers need the same, if each number costs what its text costs.
use Rattle.std.proofs.Common.{◌≡◌, ℕ, ◌+◌, Bool, cond, List, [], ◌∷◌, map, Option, Some}
use Rattle.std.proofs.Common.{refl, sym, ap, ◌∙◌, arith}
use Rattle.std.proofs.lemmas.List.Sums.{sum_by-cons}
use Rattle.std.specs.Option.{unwrap_or, option_map}
use Rattle.std.specs.Prelude.{nat_eq, sum_by, ◌++◌}
use Rattle.std.specs.Str.{bytes_eq}
use Rattle.lru_theory.specs.Traces.{since, recency, past_after}
use Rattle.lru_theory.specs.Budgets.{needs, misses_within, is_far_within}
use Rattle.lru_trace.specs.Names.{number_in}
use Rattle.lru_trace.proofs.Numbered.{Named, named_from, is_in_named, since_named, recency_named, warm_named}

module _ (names : List (List ℕ)) where
  abbrev number : List ℕ → Option ℕ
  number = number_in names

  module _ (cost : List ℕ → ℕ) (weight : ℕ → ℕ)
      (same : (x : List ℕ) (n : ℕ) → number x ≡ Some n → cost x ≡ weight n) where
    pub sum_named : (xs : List (List ℕ)) (ns : List ℕ) → Named number xs ns → sum_by cost xs ≡ sum_by weight ns
    sum_named [] [] h = refl
    sum_named [] (k ∷ ns) h = absurd h
    sum_named (y ∷ xs) [] h = absurd h
    sum_named (y ∷ xs) (k ∷ ns) h = omega (
      arith,
      sum_named xs ns h.1,
      same y k h.0,
      sum_by-cons cost y xs,
      sum_by-cons weight k ns,
    )

    within_named : (n : ℕ) (past : List (List ℕ)) (ps : List ℕ) (xs : List (List ℕ)) (ns : List ℕ)
        → Named number past ps → Named number xs ns
        → misses_within bytes_eq cost n past xs ≡ misses_within nat_eq weight n ps ns
    within_named n past ps [] [] before h = refl
    within_named n past ps [] (k ∷ ns) before h = absurd h
    within_named n past ps (y ∷ xs) [] before h = absurd h
    within_named n past ps (y ∷ xs) (k ∷ ns) before h =
        let later = sum_named (recency bytes_eq (since bytes_eq y past)) (recency nat_eq (since nat_eq k ps))
        (recency_named names (since bytes_eq y past) (since nat_eq k ps)
        (since_named names y k h.0 past ps before)) in
        let need : needs bytes_eq cost y past ≡ needs nat_eq weight k ps = λ i. same y k h.0 i + later i in
        rw (
          within_named n (y ∷ past) (k ∷ ps) xs ns (h.0, before) h.1,
          is_in_named names y k h.0 past ps before,
          need,
        ) refl

  module _ (warm trace : List (List ℕ)) (before numbers : List ℕ) (warmed : map number warm ≡ map Some before)
      (named : map number trace ≡ map Some numbers) where
    pub warm_within_named : (cost : List ℕ → ℕ) (weight : ℕ → ℕ)
        → ((x : List ℕ) (n : ℕ) → number x ≡ Some n → cost x ≡ weight n) → (n : ℕ) → misses_within bytes_eq cost n (past_after [] warm) trace
        ≡ misses_within nat_eq weight n (past_after [] before) numbers
    warm_within_named cost weight same n = within_named cost weight same n (past_after [] warm) (past_after [] before)
        trace numbers (warm_named names warm trace before numbers warmed named) (named_from number trace numbers named)

    -- The misses depend only on the sizes of the numbers that texts have.
    pub reweighed : (old new : ℕ → ℕ) → ((x : List ℕ) (n : ℕ) → number x ≡ Some n → new n ≡ old n)
        → (n : ℕ) → misses_within nat_eq new n (past_after [] before) numbers
        ≡ misses_within nat_eq old n (past_after [] before) numbers
    reweighed old new same n =
        let cost : List ℕ → ℕ = λ x. unwrap_or (option_map old (number x)) 0 in
        let of_old : (x : List ℕ) (k : ℕ) → number x ≡ Some k → cost x ≡ old k =
        λ x k e. ap (λ o. unwrap_or (option_map old o) 0) e in
        sym (warm_within_named cost new (λ x k e. of_old x k e ∙ sym (same x k e)) n)
        ∙ warm_within_named cost old of_old n

pub within_more : {K : Type 0} (eq : K → K → Bool) (cost : K → ℕ) (n : ℕ) (past trace : List K) (key : K)
    → misses_within eq cost n past (trace ++ key ∷ [])
    ≡ misses_within eq cost n past trace + cond (is_far_within eq cost n key (past_after past trace)) 1 0
within_more eq cost n past [] key = omega arith
within_more eq cost n past (x ∷ trace) key = omega (arith, within_more eq cost n (x ∷ past) trace key)
