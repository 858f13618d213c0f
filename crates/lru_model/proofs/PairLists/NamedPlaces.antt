use Rattle.std.proofs.Common.{◌≡◌, ℕ, Bool, true, false, cond, List, [], ◌∷◌, Some, None, refl, sym, ap, ◌∙◌}
use Rattle.std.proofs.Common.{Option, option_map}
use Rattle.std.specs.Prelude.{is_some, IfSome, IfNone}
use Rattle.std.proofs.lemmas.Option.{none-some}
use Rattle.lru_model.specs.Lists.{lookup, lookup_entry, place_of, other_places, front, front_places, after, without}
use Rattle.lru_model.proofs.PairLists.NamedPairs.{lookup-entry}

module _ {K V : Type 0} (names : K → Bool) where
  pub named_there : (pairs : List (K × V)) (places : List ℕ) (b : ℕ) → place_of names pairs places ≡ Some b
      → (pair : K × V) × (lookup_entry names pairs ≡ Some pair) × (names pair.0 ≡ true)
  named_there [] places b e = absurd (none-some b e)
  named_there (pair ∷ pairs) [] b e = absurd (none-some b e)
  named_there (pair ∷ pairs) (c ∷ places) b e = go (names pair.0) refl (named_there pairs places b) e
    where
      go : (y : Bool) → names pair.0 ≡ y → (place_of names pairs places ≡ Some b
          → (p : K × V) × (lookup_entry names pairs ≡ Some p) × (names p.0 ≡ true))
          → cond y (Some c) (place_of names pairs places) ≡ Some b
          → (p : K × V) × (cond y (Some pair) (lookup_entry names pairs) ≡ Some p) × (names p.0 ≡ true)
      go true is rest h = (pair, refl, is)
      go false is rest h = rest h

  pub front_place : (pairs : List (K × V)) (places : List ℕ) (b : ℕ) → place_of names pairs places ≡ Some b
      → place_of names (front names pairs) (front_places names pairs places) ≡ Some b
  front_place pairs places b e =
      let (pair, there, named) = named_there pairs places b e in
      (λ i. place_of names (after (there i) (without names pairs)) (after (e i) (other_places names pairs places)))
      ∙ rw named refl

  pub front_found : (pairs : List (K × V)) (places : List ℕ) (b : ℕ) → place_of names pairs places ≡ Some b
      → lookup_entry names (front names pairs) ≡ lookup_entry names pairs
  front_found pairs places b e =
      let (pair, there, named) = named_there pairs places b e in
      ap (λ o. lookup_entry names (after o (without names pairs))) there ∙ rw named (sym there)

  pub no_named_value : (pairs : List (K × V)) → lookup_entry names pairs ≡ None → lookup names pairs ≡ None
  no_named_value pairs none = lookup-entry names pairs ∙ ap (option_map (λ p. p.1)) none

  pub named_value : (pairs : List (K × V)) (pair : K × V) → lookup_entry names pairs ≡ Some pair
      → lookup names pairs ≡ Some pair.1
  named_value pairs pair there = lookup-entry names pairs ∙ ap (option_map (λ p. p.1)) there

  pub place_says : (pairs : List (K × V)) (places : List ℕ) (b : ℕ) → place_of names pairs places ≡ Some b
      → is_some (lookup names pairs) ≡ true
  place_says pairs places b e = let (pair, there, named) = named_there pairs places b e in
      ap is_some (named_value pairs pair there)

  pub search_says : (pairs : List (K × V)) (places : List ℕ) (found : Option ℕ)
      → IfSome found (λ b. place_of names pairs places ≡ Some b)
      → IfNone found (lookup_entry names pairs ≡ None) → is_some found ≡ is_some (lookup names pairs)
  search_says pairs places (Some b) there none = sym (place_says pairs places b there)
  search_says pairs places None there none = sym (ap is_some (no_named_value pairs none))
