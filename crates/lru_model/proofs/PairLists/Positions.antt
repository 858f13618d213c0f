use Rattle.std.proofs.Common.{◌≡◌, ℕ, ◌+◌, suc, Bool, true, false, List, [], ◌∷◌, Some, None, refl, sym, ap, ◌∙◌}
use Rattle.std.proofs.Common.{arith, cond}
use Rattle.std.specs.Prelude.{slice_get, position}
use Rattle.std.specs.List.{position_from}
use Rattle.std.proofs.lemmas.Option.{none-some}
use Rattle.std.proofs.lemmas.Iterator.Adapters.{position_from-zero}
use Rattle.lru_model.specs.Lists.{lookup_entry, place_of}

module _ {K V : Type 0} (names : K → Bool) where
  placed_from : (i b : ℕ) (pairs : List (K × V)) (places : List ℕ) → place_of names pairs places ≡ Some b
      → (k : ℕ) × (position_from (λ (pair : K × V). names pair.0) i pairs ≡ Some (i + k)) ×
      (slice_get places k ≡ Some b)
  placed_from i b [] places e = absurd (none-some b e)
  placed_from i b (p ∷ ps) [] e = absurd (none-some b e)
  placed_from i b (p ∷ ps) (c ∷ cs) e = go (names p.0) e (placed_from (i + 1) b ps cs)
    where
      go : (y : Bool) → cond y (Some c) (place_of names ps cs) ≡ Some b
          → (place_of names ps cs ≡ Some b → (k : ℕ)
          × (position_from (λ (pair : K × V). names pair.0) (i + 1) ps ≡ Some (i + 1 + k)) × (slice_get cs k ≡ Some b))
          → (k : ℕ) × (cond y (Some i) (position_from (λ (pair : K × V). names pair.0) (i + 1) ps) ≡ Some (i + k))
          × (slice_get (c ∷ cs) k ≡ Some b)
      go true e later = (0, ap Some (omega arith), e)
      go false e later =
          let (k, at, there) = later e in
          (suc k, at ∙ ap Some (omega arith), there)

  pub placed : (b : ℕ) (pairs : List (K × V)) (places : List ℕ) → place_of names pairs places ≡ Some b
      → (k : ℕ) × (position (λ (pair : K × V). names pair.0) pairs ≡ Some k) × (slice_get places k ≡ Some b)
  placed b pairs places e =
      let (k, at, there) = placed_from 0 b pairs places e in
      (k, position_from-zero (λ (pair : K × V). names pair.0) pairs ∙ at ∙ ap Some (omega arith), there)

  none_from : (i : ℕ) (pairs : List (K × V)) → lookup_entry names pairs ≡ None
      → position_from (λ (pair : K × V). names pair.0) i pairs ≡ None
  none_from i [] e = refl
  none_from i (p ∷ ps) e = go (names p.0) e (none_from (i + 1) ps)
    where
      go : (y : Bool) → cond y (Some p) (lookup_entry names ps) ≡ None
          → (lookup_entry names ps ≡ None → position_from (λ (pair : K × V). names pair.0) (i + 1) ps ≡ None)
          → cond y (Some i) (position_from (λ (pair : K × V). names pair.0) (i + 1) ps) ≡ None
      go true e later = absurd (none-some p (sym e))
      go false e later = later e

  pub nowhere : (pairs : List (K × V)) → lookup_entry names pairs ≡ None
      → position (λ (pair : K × V). names pair.0) pairs ≡ None
  nowhere pairs e = position_from-zero (λ (pair : K × V). names pair.0) pairs ∙ none_from 0 pairs e
