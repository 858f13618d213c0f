use Rattle.std.proofs.Common.{◌≡◌, Bool, true, false, List, [], ◌∷◌, ◌++◌, Option, Some, None, refl, sym, ap, ◌∙◌}
use Rattle.std.proofs.Common.{arith}
use Rattle.std.proofs.Common.{cond, option_map}
use Rattle.std.proofs.lemmas.Option.{none-some}
use Rattle.std.specs.Cmp.{IsEquivalence}
use Rattle.std.specs.List.{IsDistinct}
use Rattle.std.proofs.lemmas.List.Elements.{Contains-append_right}
use Rattle.lru_model.specs.Lists.{lookup, lookup_entry, without, last, without_last}
use Rattle.lru_model.proofs.PairLists.DistinctKeys.{AreDistinct, NoneNamed, all_of}

pub lookup-entry : {K V : Type 0} (names : K → Bool) (xs : List (K × V)) → lookup names xs
    ≡ option_map (λ p. p.1) (lookup_entry names xs)
lookup-entry names [] = refl
lookup-entry names (x ∷ xs) = go (names x.0) (lookup-entry names xs)
  where
    go : (y : Bool) → lookup names xs ≡ option_map (λ p. p.1) (lookup_entry names xs)
        → cond y (Some x.1) (lookup names xs) ≡ option_map (λ p. p.1) (cond y (Some x) (lookup_entry names xs))
    go true h = refl
    go false h = h

pub no_pair : {K V : Type 0} (names : K → Bool) (xs : List (K × V)) → lookup names xs ≡ None → lookup_entry names xs ≡
    None
no_pair {K} {V} names xs none = go (lookup_entry names xs) (sym (lookup-entry names xs) ∙ none)
  where
    go : (o : Option (K × V)) → option_map (λ p. p.1) o ≡ None → o ≡ None
    go None e = refl
    go (Some pair) e = absurd (none-some pair.1 (sym e))

module _ {K V : Type 0} (names : K → Bool) where
  module _ (p : K × V) (named : names p.0 ≡ true) where
    pub cut_found : (xs ys : List (K × V)) → NoneNamed names xs → lookup_entry names (xs ++ p ∷ ys) ≡ Some p
    cut_found [] ys h = rw named refl
    cut_found (x ∷ xs) ys h = rw h.0 (cut_found xs ys h.1)

    pub cut_without : (xs ys : List (K × V)) → NoneNamed names xs → without names (xs ++ p ∷ ys) ≡ xs ++ ys
    cut_without [] ys h = rw named refl
    cut_without (x ∷ xs) ys h = rw h.0 (ap (λ l. x ∷ l) (cut_without xs ys h.1))

  module _ {eq : K → K → Bool} (laws : IsEquivalence eq) (one : (x y : K) → names x ≡ true → names y ≡ eq x y) where
    pub others_unnamed : (xs ys : List (K × V)) (p : K × V) → names p.0 ≡ true → AreDistinct eq (xs ++ p ∷ ys)
        → NoneNamed names xs
    unfolding IsDistinct
    others_unnamed [] ys p named d = tt
    others_unnamed (x ∷ xs) ys p named d = (
      one p.0 x.0 named ∙ laws.symm p.0 x.0 ∙ all_of (λ k. eq x.0 k ≡ false) (xs ++ p ∷ ys) p d.0
          (Contains-append_right xs (p ∷ ys) p (0, omega arith, refl)),
      others_unnamed xs ys p named d.1,
    )

module _ {X : Type 0} where
  pub last_end : (xs : List X) (x : X) → last (xs ++ x ∷ []) ≡ Some x
  last_end [] x = refl
  last_end (y ∷ []) x = refl
  last_end (y ∷ z ∷ zs) x = last_end (z ∷ zs) x

  pub without_last_end : (xs : List X) (x : X) → without_last (xs ++ x ∷ []) ≡ xs
  without_last_end [] x = refl
  without_last_end (y ∷ []) x = refl
  without_last_end (y ∷ z ∷ zs) x = ap (λ l. y ∷ l) (without_last_end (z ∷ zs) x)
