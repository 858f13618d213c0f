use Rattle.std.proofs.Common.{◌≡◌, ℕ, ◌+◌, ◌<◌, ◌^◌, true, List, [], ◌∷◌, ◌++◌, length, Some}
use Rattle.std.proofs.Common.{sym, subst, ap, rules, ◌∙◌, arith, inl, inr}
use Rattle.std.proofs.lemmas.Bool.{false≢true, eq-eqb}
use Rattle.std.proofs.lemmas.List.{length_push}
use Rattle.std.proofs.lemmas.Option.{none-some}
use Rattle.std.specs.Prelude.{◌||◌, nat_eq, sum_by}
use Rattle.std.specs.Set.{remove_key}
use Rattle.lru_theory.specs.Traces.{is_in}
use Rattle.lru_trace.specs.Names.{number_in}
use Rattle.lru_trace.specs.Sized.{IsSized}
use Rattle.lru_trace.specs.Slots.{Recent, weight_in}
use Rattle.lru_trace.proofs.Numbered.{cases}
use Rattle.lru_trace.proofs.SizedKeys.{all_added, moved_sum, moved_in, sum_added}

pub none_named : {A : Type 0} (names : List (List ℕ)) → names ≡ [] → (key : List ℕ) (n : ℕ)
    → number_in names key ≡ Some n → A
none_named names none key n e = absurd (none-some n (ap (λ them. number_in them key) (sym none) ∙ e))

pub none_in : {A : Type 0} (xs : List ℕ) → xs ≡ [] → (n : ℕ) → is_in nat_eq n xs ≡ true → A
none_in xs none n e = absurd (false≢true (ap (is_in nat_eq n) (sym none) ∙ e))

module _ {names : List (List ℕ)} {old : Recent} {limits counts : List ℕ} {references total : ℕ}
    (is : IsSized names old limits counts references total) (new : Recent) where
  pub unmoved : new.recency ≡ old.recency → new.keys ≡ old.keys → new.weights ≡ old.weights
      → IsSized names new limits counts references total
  unmoved recency keys weights =
      let kept = subst (λ r. IsSized names r limits counts references total)
      (λ i. record old { recency = sym recency i; keys = sym keys i; weights = sym weights i }) is in
      search rules

  module _ (number : ℕ) where
    pub moved : is_in nat_eq number old.recency ≡ true
        → new.recency ≡ number ∷ remove_key (nat_eq number) old.recency → new.keys ≡ old.keys
        → new.weights ≡ old.weights → IsSized names new limits counts references total
    moved there recency keys weights = record {
      numbered = is.numbered ∙ sym keys;
      aligned = ap length weights ∙ is.aligned ∙ sym keys;
      within = all_added number old new is.within recency (omega (arith, is.within number there, keys)) (omega (arith, keys));
      known = λ key n e. ap (is_in nat_eq n) recency ∙ moved_in number n old.recency (is.known key n e);
      whole = is.whole ∙ sym (moved_sum (weight_in old.weights) number old.recency there)
          ∙ sym (λ i. sum_by (weight_in (weights i)) (recency i));
      small = is.small;
      rising = is.rising;
      long = is.long;
      counted = is.counted;
    }

    module _ (bytes : ℕ) (next : number ≡ old.keys) (weights : new.weights ≡ old.weights ++ bytes ∷ [])
        (keys : new.keys ≡ old.keys + 1) where
      last : number ≡ length old.weights
      last = omega (arith, next, is.aligned)

      inside : (n : ℕ) → is_in nat_eq n old.recency ≡ true → n < length old.weights
      inside n e = omega (arith, is.within n e, is.aligned)

      pub added : (key : List ℕ) → new.recency ≡ number ∷ remove_key (nat_eq number) old.recency → (whole : ℕ)
          → whole ≡ total + bytes → whole < 2 ^ 64 → IsSized (names ++ key ∷ []) new limits counts references whole
      added key recency whole is_whole fits = record {
        numbered = omega (arith, length_push names key, is.numbered, keys);
        aligned = omega (arith, ap length weights, length_push old.weights bytes, is.aligned, keys);
        within = all_added number old new is.within recency (omega (arith, next, keys)) (omega (arith, keys));
        known = λ x n e. ap (is_in nat_eq n) recency ∙ elim (cases names key x n e) [
          | inl h ↦ ap (λ b. b || is_in nat_eq n (remove_key (nat_eq number) old.recency))
              (eq-eqb n number (omega (arith, h.1, is.numbered, next)))
          | inr h ↦ moved_in number n old.recency (is.known x n h)
        ];
        whole = omega (arith, is_whole, is.whole, sum_added old.weights bytes old.recency inside number last)
            ∙ sym (λ i. sum_by (weight_in (weights i)) (recency i));
        small = fits;
        rising = is.rising;
        long = is.long;
        counted = is.counted;
      }
