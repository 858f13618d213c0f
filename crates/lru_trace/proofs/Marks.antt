-- The places of a list of numbers, some of which are free.
use Rattle.std.proofs.Common.{◌≡◌, ℕ, suc, ◌≤◌, ◌<◌, Bool, true, false, cond, List, [], ◌∷◌, length, map}
use Rattle.std.proofs.Common.{Some, None, refl, sym, ap, ◌∙◌, arith, subst}
use Rattle.std.proofs.lemmas.Bool.{eq-eqb, eqb-true, or_right, both_ways}
use Rattle.std.specs.Prelude.{◌||◌, nat_eq}
use Rattle.std.specs.Set.{remove_key}
use Rattle.lru_theory.specs.Places.{keys_in, contains_it, place_of, freed, vacated}
use Rattle.lru_theory.specs.Traces.{is_in, since}
use Rattle.lru_trace.specs.Places.{mark, owns, Falls}

pub or_false : (b : Bool) → (b || false) ≡ b
or_false true = refl
or_false false = refl

pub here : (x : ℕ) (xs : List ℕ) → is_in nat_eq x (x ∷ xs) ≡ true
here x xs = rw (eq-eqb x x refl) refl

pub there : (y x : ℕ) (xs : List ℕ) → is_in nat_eq y xs ≡ true → is_in nat_eq y (x ∷ xs) ≡ true
there y x xs e = or_right (nat_eq y x) (is_in nat_eq y xs) e

pub never_true : (b : Bool) → (b ≡ true → ⊥) → b ≡ false
never_true true h = absurd (h refl)
never_true false h = refl

pub never : {b : Bool} → (b ≡ true → ⊥) → b ≡ false
never {b} h = never_true b h

pub differ : (x y : ℕ) → (x ≡ y → ⊥) → nat_eq x y ≡ false
differ x y h = never (λ e. h (eqb-true x y e))

module _ (time : ℕ → ℕ) where
  pub falls_few : (bound : ℕ) (ids : List ℕ) → Falls time bound ids → length ids ≤ bound
  falls_few bound [] h = omega arith
  falls_few bound (x ∷ xs) h = omega (arith, h.0, falls_few (time x) xs h.1)

  pub below : (bound : ℕ) (ids : List ℕ) → Falls time bound ids → (id : ℕ) → is_in nat_eq id ids ≡ true
      → time id < bound
  below bound [] h id e = absurd cc
  below bound (x ∷ xs) h id e = go (nat_eq id x) refl e (below (time x) xs h.1 id)
    where
      go : (t : Bool) → nat_eq id x ≡ t → (t || is_in nat_eq id xs) ≡ true
          → (is_in nat_eq id xs ≡ true → time id < time x) → time id < bound
      go true same e ih = omega (arith, h.0, ap time (eqb-true id x same))
      go false other e ih = omega (arith, h.0, ih e)

  pub other_than : (x : ℕ) (xs : List ℕ) → Falls time (time x) xs → (y : ℕ) → is_in nat_eq y xs ≡ true → x ≡ y → ⊥
  other_than x xs h y e same = omega (arith, below (time x) xs h y e, ap time same)

  pub same_time : (bound : ℕ) (ids : List ℕ) → Falls time bound ids → (x y : ℕ) → is_in nat_eq x ids ≡ true
      → is_in nat_eq y ids ≡ true → time x ≡ time y → x ≡ y
  same_time bound [] h x y e d same = absurd cc
  same_time bound (z ∷ zs) h x y e d same =
      go (nat_eq x z) (nat_eq y z) refl refl e d (λ e d. same_time (time z) zs h.1 x y e d same)
    where
      go : (s t : Bool) → nat_eq x z ≡ s → nat_eq y z ≡ t → (s || is_in nat_eq x zs) ≡ true
          → (t || is_in nat_eq y zs) ≡ true → (is_in nat_eq x zs ≡ true → is_in nat_eq y zs ≡ true → x ≡ y) → x ≡ y
      go true true a b e d ih = eqb-true x z a ∙ sym (eqb-true y z b)
      go true false a b e d ih = absurd (omega (arith, below (time z) zs h.1 y d, same, ap time (eqb-true x z a)))
      go false true a b e d ih = absurd (omega (arith, below (time z) zs h.1 x e, same, ap time (eqb-true y z b)))
      go false false a b e d ih = ih e d

  pub falls_more : (bound more : ℕ) (ids : List ℕ) → bound ≤ more → Falls time bound ids → Falls time more ids
  falls_more bound more [] few h = tt
  falls_more bound more (x ∷ xs) few h = (omega (arith, few, h.0), h.1)

  pub falls_removed : (test : ℕ → Bool) (bound : ℕ) (ids : List ℕ) → Falls time bound ids
      → Falls time bound (remove_key test ids)
  falls_removed test bound [] h = tt
  falls_removed test bound (x ∷ xs) h = go (test x) (falls_removed test (time x) xs h.1)
    where
      go : (b : Bool) → Falls time (time x) (remove_key test xs) → Falls time bound (cond b xs (x ∷ remove_key test xs))
      go true ih = falls_more (time x) bound xs (omega (arith, h.0)) h.1
      go false ih = (h.0, ih)

  pub falls_on : (new : ℕ → ℕ) (bound : ℕ) (ids : List ℕ) → ((x : ℕ) → is_in nat_eq x ids ≡ true → new x ≡ time x)
      → Falls time bound ids → Falls new bound ids
  falls_on new bound [] same h = tt
  falls_on new bound (x ∷ xs) same h =
      let first = same x (here x xs) in (
        omega (arith, first, h.0),
        subst (λ b. Falls new b xs) (sym first) (falls_on new (time x) xs (λ y e. same y (there y x xs e)) h.1),
      )

  pub removed_out : (id bound : ℕ) (ids : List ℕ) → Falls time bound ids
      → is_in nat_eq id (remove_key (nat_eq id) ids) ≡ false
  removed_out id bound [] h = refl
  removed_out id bound (x ∷ xs) h = go (nat_eq id x) refl (removed_out id (time x) xs h.1)
    where
      go : (t : Bool) → nat_eq id x ≡ t → is_in nat_eq id (remove_key (nat_eq id) xs) ≡ false
          → is_in nat_eq id (cond t xs (x ∷ remove_key (nat_eq id) xs)) ≡ false
      go true e ih = never (λ inside. other_than x xs h.1 id inside (sym (eqb-true id x e)))
      go false e ih = rw e ih

pub kept_in : (id y : ℕ) (ids : List ℕ) → is_in nat_eq y ids ≡ true → (id ≡ y → ⊥)
    → is_in nat_eq y (remove_key (nat_eq id) ids) ≡ true
kept_in id y [] e other = absurd cc
kept_in id y (x ∷ xs) e other = go (nat_eq id x) (nat_eq y x) refl refl e (λ e. kept_in id y xs e other)
  where
    go : (s t : Bool) → nat_eq id x ≡ s → nat_eq y x ≡ t → (t || is_in nat_eq y xs) ≡ true
        → (is_in nat_eq y xs ≡ true → is_in nat_eq y (remove_key (nat_eq id) xs) ≡ true)
        → is_in nat_eq y (cond s xs (x ∷ remove_key (nat_eq id) xs)) ≡ true
    go true true a b e ih = absurd (other (eqb-true id x a ∙ sym (eqb-true y x b)))
    go true false a b e ih = e
    go false true a b e ih = rw b refl
    go false false a b e ih = rw b (ih e)

module _ (f : ℕ → Bool) where
  pub in_marks : (x : ℕ) (ids : List ℕ) → is_in nat_eq x (keys_in (map (mark f) ids)) ≡ true
      → (is_in nat_eq x ids ≡ true) × (f x ≡ false)
  in_marks x [] e = absurd cc
  in_marks x (y ∷ ys) e = go (f y) refl e (in_marks x ys)
    where
      test : (t : Bool) → nat_eq x y ≡ t → f y ≡ false → (t || is_in nat_eq x (keys_in (map (mark f) ys))) ≡ true
          → (is_in nat_eq x (keys_in (map (mark f) ys)) ≡ true → (is_in nat_eq x ys ≡ true) × (f x ≡ false))
          → (is_in nat_eq x (y ∷ ys) ≡ true) × (f x ≡ false)
      test true same h e ih = (ap (λ b. b || is_in nat_eq x ys) same, ap f (eqb-true x y same) ∙ h)
      test false other h e ih = (there x y ys (ih e).0, (ih e).1)

      go : (t : Bool) → f y ≡ t → is_in nat_eq x (keys_in (cond t None (Some y) ∷ map (mark f) ys)) ≡ true
          → (is_in nat_eq x (keys_in (map (mark f) ys)) ≡ true → (is_in nat_eq x ys ≡ true) × (f x ≡ false))
          → (is_in nat_eq x (y ∷ ys) ≡ true) × (f x ≡ false)
      go true h e ih = (there x y ys (ih e).0, (ih e).1)
      go false h e ih = test (nat_eq x y) refl h e ih

  pub place_is : (x : ℕ) (ids : List ℕ) → f x ≡ false → is_in nat_eq x ids ≡ true
      → place_of (nat_eq x) (map (mark f) ids) ≡ length (since nat_eq x ids)
  place_is x [] free e = absurd cc
  place_is x (y ∷ ys) free e = go (nat_eq x y) (f y) refl refl e (place_is x ys free)
    where
      go : (s t : Bool) → nat_eq x y ≡ s → f y ≡ t → (s || is_in nat_eq x ys) ≡ true
          → (is_in nat_eq x ys ≡ true → place_of (nat_eq x) (map (mark f) ys) ≡ length (since nat_eq x ys))
          → cond (contains_it (nat_eq x) (cond t None (Some y))) 0 (suc (place_of (nat_eq x) (map (mark f) ys)))
          ≡ length (cond s [] (y ∷ since nat_eq x ys))
      go true true same h e ih = absurd (both_ways _ (sym (ap f (eqb-true x y same)) ∙ free) h)
      go true false same h e ih = rw same refl
      go false true other h e ih = ap suc (ih e)
      go false false other h e ih = rw other (ap suc (ih e))

  pub marks_stay : ((x : ℕ) → f x ≡ false) → (ids : List ℕ)
      → vacated (owns None) (map (mark f) ids) ≡ map (mark f) ids
  marks_stay h [] = refl
  marks_stay h (x ∷ xs) = rw (h x) (ap (λ ps. Some x ∷ ps) (marks_stay h xs))

  pub marks_without : (id : ℕ) (ids : List ℕ) → f id ≡ false → (g : ℕ → Bool)
      → ((x : ℕ) → is_in nat_eq x (remove_key (nat_eq id) ids) ≡ true → g x ≡ f x)
      → map (mark g) (remove_key (nat_eq id) ids) ≡ map (mark f) (remove_key (nat_eq id) ids)
  marks_without id ids h g same = all (remove_key (nat_eq id) ids) same
    where
      all : (xs : List ℕ) → ((x : ℕ) → is_in nat_eq x xs ≡ true → g x ≡ f x) → map (mark g) xs ≡ map (mark f) xs
      all [] same = refl
      all (x ∷ xs) same = λ i. cond (same x (here x xs) i) None (Some x) ∷ all xs (λ y e. same y (there y x xs e)) i

  pub marks_same : (g : ℕ → Bool) (ids : List ℕ) → ((x : ℕ) → is_in nat_eq x ids ≡ true → g x ≡ f x)
      → map (mark g) ids ≡ map (mark f) ids
  marks_same g [] same = refl
  marks_same g (x ∷ xs) same = λ i. cond (same x (here x xs) i) None (Some x) ∷ marks_same g xs (λ y e. same y (there y x xs e)) i

module _ (time : ℕ → ℕ) (own f g : ℕ → Bool) (alone : (x y : ℕ) → own x ≡ true → own y ≡ true → x ≡ y) where
  others : (x : ℕ) (xs : List ℕ) → Falls time (time x) xs → own x ≡ true → (y : ℕ) → is_in nat_eq y xs ≡ true
      → own y ≡ false
  others x xs h mine y e = never (λ too. other_than time x xs h y e (alone x y mine too))

  pub marks_freed : (bound : ℕ) (ids : List ℕ) → Falls time bound ids
      → ((x : ℕ) → is_in nat_eq x ids ≡ true → own x ≡ true → f x ≡ false)
      → ((x : ℕ) → is_in nat_eq x ids ≡ true → g x ≡ (f x || own x))
      → map (mark g) ids ≡ freed own (map (mark f) ids)
  marks_freed bound [] h kept rest = refl
  marks_freed bound (x ∷ xs) h kept rest = go (own x) (f x) refl (kept x (here x xs)) (rest x (here x xs))
      (marks_freed (time x) xs h.1 (λ y e. kept y (there y x xs e)) (λ y e. rest y (there y x xs e)))
    where
      go : (o t : Bool) → own x ≡ o → (o ≡ true → t ≡ false) → g x ≡ (t || o)
          → map (mark g) xs ≡ freed own (map (mark f) xs)
          → cond (g x) None (Some x) ∷ map (mark g) xs ≡ cond (contains_it own (cond t None (Some x)))
          (None ∷ map (mark f) xs) (cond t None (Some x) ∷ freed own (map (mark f) xs))
      go true true mine k is more = absurd (both_ways _ (k refl) refl)
      go true false mine k is more = rw (mine, is) (ap (λ ps. None ∷ ps) (marks_same f g xs
          (λ y e. rest y (there y x xs e) ∙ ap (λ b. f y || b) (others x xs h.1 mine y e) ∙ or_false (f y))))
      go false true mine k is more = rw is (ap (λ ps. None ∷ ps) more)
      go false false mine k is more = rw (mine, is) (ap (λ ps. Some x ∷ ps) more)

  module _ (id : ℕ) where
    pub marks_moved : (bound : ℕ) (ids : List ℕ) → Falls time bound ids → is_in nat_eq id ids ≡ true
        → (f id || own id) ≡ true → ((x : ℕ) → is_in nat_eq x ids ≡ true → own x ≡ true → f x ≡ false)
        → ((x : ℕ) → is_in nat_eq x ids ≡ true → (f x || own x) ≡ true → time x ≤ time id)
        → ((x : ℕ) → is_in nat_eq x ids ≡ true → (id ≡ x → ⊥) → g x ≡ (f x || own x))
        → map (mark g) (remove_key (nat_eq id) ids) ≡ vacated own (map (mark f) ids)
    marks_moved bound [] h inside chosen kept newest rest = absurd cc
    marks_moved bound (x ∷ xs) h inside chosen kept newest rest = go (nat_eq id x) refl inside
        (λ e. marks_moved (time x) xs h.1 e chosen (λ y e. kept y (there y x xs e)) (λ y e. newest y (there y x xs e))
        (λ y e. rest y (there y x xs e)))
      where
        after : (y : ℕ) → is_in nat_eq y xs ≡ true → id ≡ x → id ≡ y → ⊥
        after y e same it = other_than time x xs h.1 y e (sym same ∙ it)

        first : id ≡ x → (t o : Bool) → f x ≡ t → own x ≡ o → (t || o) ≡ true
            → map (mark g) xs ≡ vacated own (cond t None (Some x) ∷ map (mark f) xs)
        first same true o free mine e = marks_freed (time x) xs h.1 (λ y e. kept y (there y x xs e))
            (λ y e. rest y (there y x xs e) (after y e same))
        first same false true free mine e = rw mine (marks_same f g xs (λ y e. rest y (there y x xs e) (after y e same)
            ∙ ap (λ b. f y || b) (others x xs h.1 mine y e) ∙ or_false (f y)))
        first same false false free mine e = absurd cc

        later : is_in nat_eq id xs ≡ true → (t o : Bool) → f x ≡ t → own x ≡ o → g x ≡ (t || o)
            → ((t || o) ≡ true → time x ≤ time id)
            → map (mark g) (remove_key (nat_eq id) xs) ≡ vacated own (map (mark f) xs)
            → cond (g x) None (Some x) ∷ map (mark g) (remove_key (nat_eq id) xs)
            ≡ vacated own (cond t None (Some x) ∷ map (mark f) xs)
        later e true o free mine is old ih = absurd (omega (arith, old refl, below time (time x) xs h.1 id e))
        later e false true free mine is old ih = absurd (omega (arith, old refl, below time (time x) xs h.1 id e))
        later e false false free mine is old ih = rw (mine, is) (ap (λ ps. Some x ∷ ps) ih)

        go : (t : Bool) → nat_eq id x ≡ t → (t || is_in nat_eq id xs) ≡ true
            → (is_in nat_eq id xs ≡ true → map (mark g) (remove_key (nat_eq id) xs) ≡ vacated own (map (mark f) xs))
            → map (mark g) (cond t xs (x ∷ remove_key (nat_eq id) xs)) ≡ vacated own (map (mark f) (x ∷ xs))
        go true same e ih =
            let is = eqb-true id x same in
            first is (f x) (own x) refl refl (sym (ap (λ y. f y || own y) is) ∙ chosen)
        go false other e ih = later e (f x) (own x) refl refl (rest x (here x xs) (λ same. both_ways _ other (eq-eqb id x same)))
            (newest x (here x xs)) (ih e)
