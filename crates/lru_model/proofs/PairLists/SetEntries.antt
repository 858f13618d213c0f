use Rattle.std.proofs.Common.{◌≡◌, ℕ, Bool, true, false, cond, List, [], ◌∷◌, length, Some, None, refl, ap}
use Rattle.std.proofs.Common.{arith}
use Rattle.std.proofs.lemmas.Option.{none-some}
use Rattle.lru_model.specs.Lists.{lookup_entry, without, after, front, set_entry, place_of}

module _ {K V : Type 0} (names : K → Bool) (q : K × V) where
  pub length-set_entry : (xs : List (K × V)) → length (set_entry names q xs) ≡ length xs
  length-set_entry [] = refl
  length-set_entry (x ∷ xs) = go (names x.0) (length-set_entry xs)
    where
      go : (b : Bool) → length (set_entry names q xs) ≡ length xs
          → length (cond b (q ∷ xs) (x ∷ set_entry names q xs)) ≡ length (x ∷ xs)
      go true h = refl
      go false h = omega (arith, h)

  module _ (named : names q.0 ≡ true) where
    pub place-set_entry : (xs : List (K × V)) (places : List ℕ)
        → place_of names (set_entry names q xs) places ≡ place_of names xs places
    place-set_entry [] places = refl
    place-set_entry (x ∷ xs) [] = go (names x.0)
      where
        go : (b : Bool) → place_of names (cond b (q ∷ xs) (x ∷ set_entry names q xs)) [] ≡ None
        go true = refl
        go false = refl
    place-set_entry (x ∷ xs) (p ∷ places) = go (names x.0) refl (place-set_entry xs places)
      where
        go : (b : Bool) → names x.0 ≡ b → place_of names (set_entry names q xs) places ≡ place_of names xs places
            → place_of names (cond b (q ∷ xs) (x ∷ set_entry names q xs)) (p ∷ places)
            ≡ cond b (Some p) (place_of names xs places)
        go true e h = rw named refl
        go false e h = rw e h

    pub found-set_entry : (xs : List (K × V)) (p : K × V) → lookup_entry names xs ≡ Some p
        → lookup_entry names (set_entry names q xs) ≡ Some q
    found-set_entry [] p h = absurd (none-some p h)
    found-set_entry (x ∷ xs) p h = go (names x.0) refl h (found-set_entry xs p)
      where
        go : (b : Bool) → names x.0 ≡ b → cond b (Some x) (lookup_entry names xs) ≡ Some p
            → (lookup_entry names xs ≡ Some p → lookup_entry names (set_entry names q xs) ≡ Some q)
            → lookup_entry names (cond b (q ∷ xs) (x ∷ set_entry names q xs)) ≡ Some q
        go true e h r = rw named refl
        go false e h r = rw e (r h)

    pub without-set_entry : (xs : List (K × V)) → without names (set_entry names q xs) ≡ without names xs
    without-set_entry [] = refl
    without-set_entry (x ∷ xs) = go (names x.0) refl (without-set_entry xs)
      where
        go : (b : Bool) → names x.0 ≡ b → without names (set_entry names q xs) ≡ without names xs
            → without names (cond b (q ∷ xs) (x ∷ set_entry names q xs)) ≡ cond b xs (x ∷ without names xs)
        go true e h = rw named refl
        go false e h = rw e (ap (λ l. x ∷ l) h)

    pub front-set_entry : (xs : List (K × V)) (p : K × V) → lookup_entry names xs ≡ Some p
        → front names (set_entry names q xs) ≡ q ∷ without names xs
    front-set_entry xs p found = λ i. after (found-set_entry xs p found i) (without-set_entry xs i)
