use Rattle.std.proofs.Common.{◌≡◌, ℕ, ◌+◌, ◌≤◌, ◌^◌, Bool, true, false, cond, List, [], ◌∷◌, ◌++◌, Option, Some, None}
use Rattle.std.proofs.Common.{refl, sym, ap, ◌∙◌, subst, arith, append_assoc}
use Rattle.std.proofs.lemmas.List.{map-append, append-nil}
use Rattle.std.proofs.lemmas.Option.{none-some}
use Rattle.std.proofs.lemmas.List.Sums.{sum_by-cons}
use Rattle.std.proofs.lemmas.Slice.Eq.{bytes_eq-Decides}
use Rattle.std.specs.Map.{keys_of}
use Rattle.std.specs.Option.{unwrap_or}
use Rattle.std.specs.Prelude.{nat_eq, sum_by}
use Rattle.std.specs.Set.{remove_key}
use Rattle.std.specs.Str.{bytes_eq}
use Rattle.lru_theory.specs.Traces.{recency, past_after}
use Rattle.lru_theory.proofs.LongerTraces.{past_more}
use Rattle.lru_trace.specs.Names.{number_in}
use Rattle.lru_trace.specs.Sized.{Sized, IsSizedOf, bytes_of, first_size, size_in, total_of}
use Rattle.lru_trace.specs.Slots.{weight_in}
use Rattle.lru_trace.proofs.Numbered.{Named, all_named, recency_named}
use Rattle.lru_trace.proofs.SizedCosts.{sum_named}
use Rattle.lru_trace.proofs.SizedSteps.{found_still, first_is}

past_on : {K : Type 0} (past xs ys : List K) → past_after past (xs ++ ys) ≡ past_after (past_after past xs) ys
past_on past [] ys = refl
past_on past (x ∷ xs) ys = past_on (x ∷ past) xs ys

unnamed_out : (number : List ℕ → Option ℕ) (key : List ℕ) → number key ≡ None → (xs : List (List ℕ)) (ns : List ℕ)
    → Named number xs ns → remove_key (bytes_eq key) xs ≡ xs
unnamed_out number key none [] ns h = refl
unnamed_out number key none (y ∷ xs) [] h = absurd h
unnamed_out number key none (y ∷ xs) (n ∷ ns) h = go (bytes_eq key y) refl (unnamed_out number key none xs ns h.1)
  where
    go : (b : Bool) → bytes_eq key y ≡ b → remove_key (bytes_eq key) xs ≡ xs
        → cond b xs (y ∷ remove_key (bytes_eq key) xs) ≡ y ∷ xs
    go true e ih = absurd (none-some n (sym none ∙ ap number ((bytes_eq-Decides key y).0 e) ∙ h.0))
    go false e ih = ap (λ l. y ∷ l) ih

module _ {warm trace : List (List ℕ × ℕ)} {old : Sized} (of : IsSizedOf warm trace old) where
  abbrev number : List ℕ → Option ℕ
  number = number_in old.names

  abbrev numbers : List ℕ
  numbers = past_after (past_after [] of.before) of.numbers

  abbrev past : List (List ℕ)
  past = past_after [] (keys_of (warm ++ trace))

  named : Named number (recency bytes_eq past) (recency nat_eq numbers)
  named = recency_named old.names past numbers (subst (λ xs. Named number xs numbers)
      (sym (ap (past_after []) (map-append (λ e. e.0) warm trace) ∙ past_on [] (keys_of warm) (keys_of trace)))
      (all_named old.names (keys_of warm) (keys_of trace) of.before of.numbers of.warmed of.named))

  sum_is : (references : List (List ℕ × ℕ))
      → ((x : List ℕ) (n : ℕ) → number x ≡ Some n → first_size references x ≡ Some (weight_in old.sizes n))
      → sum_by (size_in references) (recency bytes_eq past) ≡ total_of old
  sum_is references same = sum_named old.names (size_in references) (weight_in old.sizes)
      (λ x n e. ap (λ o. unwrap_or o 0) (same x n e)) (recency bytes_eq past) (recency nat_eq numbers) named
      ∙ ap (sum_by (weight_in old.sizes)) (sym of.order)

  pub all_bytes : bytes_of (warm ++ trace) ≡ total_of old
  all_bytes = sum_is (warm ++ trace) of.sized

  module _ (key : List ℕ) (bytes : ℕ) (absent : number key ≡ None) (large : 2 ^ 64 ≤ total_of old + bytes) where
    abbrev one : List (List ℕ × ℕ)
    one = (key, bytes) ∷ []

    bytes_more : 2 ^ 64 ≤ bytes_of ((warm ++ trace) ++ one)
    bytes_more =
        let references = (warm ++ trace) ++ one in
        let size = size_in references in
        let more : past_after [] (keys_of references) ≡ key ∷ past =
        ap (past_after []) (map-append (λ e. e.0) (warm ++ trace) one) ∙ past_more [] (keys_of (warm ++ trace)) key in
        omega (
          arith,
          large,
          ap (λ ks. sum_by size (recency bytes_eq ks)) more,
          sum_by-cons size key (remove_key (bytes_eq key) (recency bytes_eq past)),
          ap (sum_by size) (unnamed_out number key absent (recency bytes_eq past) (recency nat_eq numbers) named),
          sum_is references (λ x n e. found_still (bytes_eq x) (warm ++ trace) one (weight_in old.sizes n) (of.sized x n e)),
          ap (λ o. unwrap_or o 0) (first_is of key bytes absent),
        )

    pub counted_large : 2 ^ 64 ≤ bytes_of (warm ++ (trace ++ one))
    counted_large = subst (λ references. 2 ^ 64 ≤ bytes_of references) (append_assoc warm trace one) bytes_more

pub warm_large : {warm : List (List ℕ × ℕ)} {old : Sized} → IsSizedOf warm [] old
    → (key : List ℕ) (bytes : ℕ) → number_in old.names key ≡ None → 2 ^ 64 ≤ total_of old + bytes
    → 2 ^ 64 ≤ bytes_of ((warm ++ (key, bytes) ∷ []) ++ [])
warm_large {warm} of key bytes absent large =
    subst (λ references. 2 ^ 64 ≤ bytes_of references) (sym (append-nil (warm ++ (key, bytes) ∷ [])))
    (counted_large of key bytes absent large)
