-- Reversed lists of entries.
use Rattle.std.proofs.Common.{◌≡◌, Bool, true, false, cond, List, [], ◌∷◌, ◌++◌, reverse, Option, Some, None, refl}
use Rattle.std.proofs.Common.{sym, ap, ◌∙◌, subst, ◌&&◌}
use Rattle.std.proofs.lemmas.List.{reverse-append, reverse-reverse, append-nil, map-append}
use Rattle.std.proofs.lemmas.List.Sorted.{IsPermutation-reverse}
use Rattle.std.proofs.lemmas.Map.Keys.{IsDistinct-head, IsDistinct-tail, IsDistinct-IsPermutation}
use Rattle.std.proofs.lemmas.Option.{none-some}
use Rattle.std.proofs.Math.Bool.{and-true, and-false, and_assoc, and_comm}
use Rattle.std.specs.Cmp.{IsEquivalence}
use Rattle.std.specs.Cmp.Lexicographic.{pointwise}
use Rattle.std.specs.List.{AllByRecursion, IsDistinct}
use Rattle.std.specs.Prelude.{is_some, if◌then◌else◌, option_to_list}
use Rattle.std.specs.Map.{lookup, lookup_entry, set_value, keys_of}
use Rattle.lru_caches.specs.Ordered.{put}
use Rattle.lru_model.specs.Lists.{without, after, front, back, first, without_first, last, without_last}
use Rattle.lru_model.proofs.PairLists.NamedPairs.{last_end, without_last_end}

module _ {X : Type 0} where
  pub reverse-cons : (x : X) (xs : List X) → reverse (x ∷ xs) ≡ reverse xs ++ x ∷ []
  reverse-cons x xs = reverse-append (x ∷ []) xs

  pub last-reverse : (xs : List X) → last (reverse xs) ≡ first xs
  last-reverse [] = refl
  last-reverse (x ∷ xs) = ap last (reverse-cons x xs) ∙ last_end (reverse xs) x

  pub without_last-reverse : (xs : List X) → without_last (reverse xs) ≡ reverse (without_first xs)
  without_last-reverse [] = refl
  without_last-reverse (x ∷ xs) = ap without_last (reverse-cons x xs) ∙ without_last_end (reverse xs) x

  pub first-reverse : (xs : List X) → first (reverse xs) ≡ last xs
  first-reverse xs = sym (last-reverse (reverse xs)) ∙ ap last (reverse-reverse xs)

  pub without_first-reverse : (xs : List X) → without_first (reverse xs) ≡ reverse (without_last xs)
  without_first-reverse xs =
      sym (reverse-reverse (without_first (reverse xs))) ∙ ap reverse (sym (without_last-reverse (reverse xs)))
      ∙ ap (λ l. reverse (without_last l)) (reverse-reverse xs)

module _ {K X : Type 0} where
  keys-reverse : (xs : List (K × X)) → keys_of (reverse xs) ≡ reverse (keys_of xs)
  keys-reverse [] = refl
  keys-reverse (x ∷ xs) =
      ap keys_of (reverse-cons x xs) ∙ map-append (λ (p : K × X). p.0) (reverse xs) (x ∷ [])
      ∙ ap (λ l. l ++ x.0 ∷ []) (keys-reverse xs) ∙ sym (reverse-cons x.0 (keys_of xs))

  pub distinct-reverse : {eq : K → K → Bool} → IsEquivalence eq → (xs : List (K × X)) → IsDistinct eq (keys_of xs)
      → IsDistinct eq (keys_of (reverse xs))
  distinct-reverse {eq} laws xs h = subst (IsDistinct eq) (sym (keys-reverse xs))
      (IsDistinct-IsPermutation eq laws.symm (keys_of xs) (reverse (keys_of xs)) (IsPermutation-reverse (keys_of xs)) h)

module _ {K X : Type 0} (test : K → Bool) where
  pub found_behind : (xs rest : List (K × X)) → lookup test xs ≡ None → lookup test (xs ++ rest) ≡ lookup test rest
  found_behind [] rest e = refl
  found_behind (x ∷ xs) rest e = go (test x.0) e (found_behind xs rest)
    where
      go : (b : Bool) → cond b (Some x.1) (lookup test xs) ≡ None
          → (lookup test xs ≡ None → lookup test (xs ++ rest) ≡ lookup test rest)
          → cond b (Some x.1) (lookup test (xs ++ rest)) ≡ lookup test rest
      go true e later = absurd (none-some x.1 (sym e))
      go false e later = later e

  without_behind : (xs rest : List (K × X)) → lookup test xs ≡ None
      → without test (xs ++ rest) ≡ xs ++ without test rest
  without_behind [] rest e = refl
  without_behind (x ∷ xs) rest e = go (test x.0) e (without_behind xs rest)
    where
      go : (b : Bool) → cond b (Some x.1) (lookup test xs) ≡ None
          → (lookup test xs ≡ None → without test (xs ++ rest) ≡ xs ++ without test rest)
          → cond b (xs ++ rest) (x ∷ without test (xs ++ rest)) ≡ x ∷ xs ++ without test rest
      go true e later = absurd (none-some x.1 (sym e))
      go false e later = ap (λ l. x ∷ l) (later e)

  set_behind : (xs rest : List (K × X)) (w : X) → lookup test xs ≡ None
      → set_value test (xs ++ rest) w ≡ xs ++ set_value test rest w
  set_behind [] rest w e = refl
  set_behind (x ∷ xs) rest w e = go (test x.0) e (set_behind xs rest w)
    where
      go : (b : Bool) → cond b (Some x.1) (lookup test xs) ≡ None
          → (lookup test xs ≡ None → set_value test (xs ++ rest) w ≡ xs ++ set_value test rest w)
          → cond b ((x.0, w) ∷ (xs ++ rest)) (x ∷ set_value test (xs ++ rest) w) ≡ x ∷ xs ++ set_value test rest w
      go true e later = absurd (none-some x.1 (sym e))
      go false e later = ap (λ l. x ∷ l) (later e)

  entry_behind : (xs rest : List (K × X)) → lookup_entry test xs ≡ None
      → lookup_entry test (xs ++ rest) ≡ lookup_entry test rest
  entry_behind [] rest e = refl
  entry_behind (x ∷ xs) rest e = go (test x.0) e (entry_behind xs rest)
    where
      go : (b : Bool) → cond b (Some x) (lookup_entry test xs) ≡ None
          → (lookup_entry test xs ≡ None → lookup_entry test (xs ++ rest) ≡ lookup_entry test rest)
          → cond b (Some x) (lookup_entry test (xs ++ rest)) ≡ lookup_entry test rest
      go true e later = absurd (none-some x (sym e))
      go false e later = later e

  module _ (x : K × X) (other : test x.0 ≡ false) where
    found_before : (xs : List (K × X)) → lookup test (xs ++ x ∷ []) ≡ lookup test xs
    found_before [] = ap (λ b. cond b (Some x.1) None) other
    found_before (y ∷ ys) = ap (cond (test y.0) (Some y.1)) (found_before ys)

    entry_before : (xs : List (K × X)) → lookup_entry test (xs ++ x ∷ []) ≡ lookup_entry test xs
    entry_before [] = ap (λ b. cond b (Some x) None) other
    entry_before (y ∷ ys) = ap (cond (test y.0) (Some y)) (entry_before ys)

    without_before : (xs : List (K × X)) → without test (xs ++ x ∷ []) ≡ without test xs ++ x ∷ []
    without_before [] = ap (λ b. cond b [] (x ∷ [])) other
    without_before (y ∷ ys) = go (test y.0) (without_before ys)
      where
        go : (b : Bool) → without test (ys ++ x ∷ []) ≡ without test ys ++ x ∷ []
            → cond b (ys ++ x ∷ []) (y ∷ without test (ys ++ x ∷ [])) ≡ cond b ys (y ∷ without test ys) ++ x ∷ []
        go true later = refl
        go false later = ap (λ l. y ∷ l) later

    set_before : (xs : List (K × X)) (w : X) → set_value test (xs ++ x ∷ []) w ≡ set_value test xs w ++ x ∷ []
    set_before [] w = ap (λ b. cond b ((x.0, w) ∷ []) (x ∷ [])) other
    set_before (y ∷ ys) w = go (test y.0) (set_before ys w)
      where
        go : (b : Bool) → set_value test (ys ++ x ∷ []) w ≡ set_value test ys w ++ x ∷ []
            → cond b ((y.0, w) ∷ (ys ++ x ∷ [])) (y ∷ set_value test (ys ++ x ∷ []) w)
            ≡ cond b ((y.0, w) ∷ ys) (y ∷ set_value test ys w) ++ x ∷ []
        go true later = refl
        go false later = ap (λ l. y ∷ l) later

module _ {K X : Type 0} {eq : K → K → Bool} (test : K → Bool)
    (one : (x y : K) → test x ≡ true → test y ≡ eq x y) where
  pub none_more : (x : K) (xs : List (K × X)) → test x ≡ true → AllByRecursion (λ y. eq x y ≡ false) (keys_of xs)
      → lookup test xs ≡ None
  none_more x [] named h = refl
  none_more x (y ∷ ys) named h =
      ap (λ b. cond b (Some y.1) (lookup test ys)) (one x y.0 named ∙ h.0) ∙ none_more x ys named h.1

  no_more : (x : K) (xs : List (K × X)) → test x ≡ true → AllByRecursion (λ y. eq x y ≡ false) (keys_of xs)
      → lookup_entry test xs ≡ None
  no_more x [] named h = refl
  no_more x (y ∷ ys) named h =
      ap (λ b. cond b (Some y) (lookup_entry test ys)) (one x y.0 named ∙ h.0) ∙ no_more x ys named h.1

  pub entry-reverse : (xs : List (K × X)) → IsDistinct eq (keys_of xs)
      → lookup_entry test (reverse xs) ≡ lookup_entry test xs
  entry-reverse [] d = refl
  entry-reverse (x ∷ xs) d = ap (lookup_entry test) (reverse-cons x xs)
      ∙ go (test x.0) refl (entry-reverse xs (IsDistinct-tail eq x.0 (keys_of xs) d))
    where
      go : (b : Bool) → test x.0 ≡ b → lookup_entry test (reverse xs) ≡ lookup_entry test xs
          → lookup_entry test (reverse xs ++ x ∷ []) ≡ cond b (Some x) (lookup_entry test xs)
      go true e later =
          let none = later ∙ no_more x.0 xs e (IsDistinct-head eq x.0 (keys_of xs) d) in
          entry_behind test (reverse xs) (x ∷ []) none ∙ ap (λ b. cond b (Some x) None) e
      go false e later = entry_before test x e (reverse xs) ∙ later

  pub lookup-reverse : (xs : List (K × X)) → IsDistinct eq (keys_of xs)
      → lookup test (reverse xs) ≡ lookup test xs
  lookup-reverse [] d = refl
  lookup-reverse (x ∷ xs) d = ap (lookup test) (reverse-cons x xs)
      ∙ go (test x.0) refl (lookup-reverse xs (IsDistinct-tail eq x.0 (keys_of xs) d))
    where
      go : (b : Bool) → test x.0 ≡ b → lookup test (reverse xs) ≡ lookup test xs
          → lookup test (reverse xs ++ x ∷ []) ≡ cond b (Some x.1) (lookup test xs)
      go true e later =
          let none = later ∙ none_more x.0 xs e (IsDistinct-head eq x.0 (keys_of xs) d) in
          found_behind test (reverse xs) (x ∷ []) none ∙ ap (λ b. cond b (Some x.1) None) e
      go false e later = found_before test x e (reverse xs) ∙ later

  pub without-reverse : (xs : List (K × X)) → IsDistinct eq (keys_of xs)
      → without test (reverse xs) ≡ reverse (without test xs)
  without-reverse [] d = refl
  without-reverse (x ∷ xs) d = ap (without test) (reverse-cons x xs)
      ∙ go (test x.0) refl (without-reverse xs (IsDistinct-tail eq x.0 (keys_of xs) d))
    where
      go : (b : Bool) → test x.0 ≡ b → without test (reverse xs) ≡ reverse (without test xs)
          → without test (reverse xs ++ x ∷ []) ≡ reverse (cond b xs (x ∷ without test xs))
      go true e later =
          let tail = IsDistinct-tail eq x.0 (keys_of xs) d in
          let none = lookup-reverse xs tail ∙ none_more x.0 xs e (IsDistinct-head eq x.0 (keys_of xs) d) in
          without_behind test (reverse xs) (x ∷ []) none
          ∙ ap (λ b. reverse xs ++ cond b [] (x ∷ [])) e ∙ append-nil (reverse xs)
      go false e later = without_before test x e (reverse xs) ∙ ap (λ l. l ++ x ∷ []) later
          ∙ sym (reverse-cons x (without test xs))

  pub set-reverse : (xs : List (K × X)) (w : X) → IsDistinct eq (keys_of xs)
      → set_value test (reverse xs) w ≡ reverse (set_value test xs w)
  set-reverse [] w d = refl
  set-reverse (x ∷ xs) w d = ap (λ l. set_value test l w) (reverse-cons x xs)
      ∙ go (test x.0) refl (set-reverse xs w (IsDistinct-tail eq x.0 (keys_of xs) d))
    where
      go : (b : Bool) → test x.0 ≡ b → set_value test (reverse xs) w ≡ reverse (set_value test xs w)
          → set_value test (reverse xs ++ x ∷ []) w ≡ reverse (cond b ((x.0, w) ∷ xs) (x ∷ set_value test xs w))
      go true e later =
          let tail = IsDistinct-tail eq x.0 (keys_of xs) d in
          let none = lookup-reverse xs tail ∙ none_more x.0 xs e (IsDistinct-head eq x.0 (keys_of xs) d) in
          set_behind test (reverse xs) (x ∷ []) w none
          ∙ ap (λ b. reverse xs ++ cond b ((x.0, w) ∷ []) (x ∷ [])) e ∙ sym (reverse-cons (x.0, w) xs)
      go false e later = set_before test x e (reverse xs) w ∙ ap (λ l. l ++ x ∷ []) later
          ∙ sym (reverse-cons x (set_value test xs w))

  pub front-reverse : (xs : List (K × X)) → IsDistinct eq (keys_of xs)
      → reverse (front test xs) ≡ back test (reverse xs)
  front-reverse xs d = turned (lookup_entry test xs) (without test xs)
      ∙ ap (λ l. l ++ option_to_list (lookup_entry test xs)) (sym (without-reverse xs d))
      ∙ ap (λ o. without test (reverse xs) ++ option_to_list o) (sym (entry-reverse xs d))
    where
      turned : (o : Option (K × X)) (ys : List (K × X)) → reverse (after o ys) ≡ reverse ys ++ option_to_list o
      turned None ys = sym (append-nil (reverse ys))
      turned (Some p) ys = reverse-cons p ys

  module _ (xs : List (K × X)) (d : IsDistinct eq (keys_of xs)) (k : K) (w : X) where
    put-as : (o : Option X) → lookup test xs ≡ o
        → (if is_some o then set_value test (reverse xs) w else reverse xs ++ (k, w) ∷ [])
        ≡ put test (k, w) (reverse xs)
    put-as o e = ap (λ p. if is_some p then set_value test (reverse xs) w else reverse xs ++ (k, w) ∷ [])
        (sym (lookup-reverse xs d ∙ e))

    pub put-there : (v : X) → lookup test xs ≡ Some v → reverse (set_value test xs w) ≡ put test (k, w) (reverse xs)
    put-there v e = sym (set-reverse xs w d) ∙ put-as (Some v) e

    pub put-new : lookup test xs ≡ None → reverse ((k, w) ∷ xs) ≡ put test (k, w) (reverse xs)
    put-new e = reverse-cons (k, w) xs ∙ put-as None e

module _ {X Y : Type 0} (eq : X → Y → Bool) where
  longer : (y : Y) (ys : List Y) → pointwise eq [] (ys ++ y ∷ []) ≡ false
  longer y [] = refl
  longer y (z ∷ zs) = refl

  shorter : (x : X) (xs : List X) → pointwise eq (xs ++ x ∷ []) [] ≡ false
  shorter x [] = refl
  shorter x (z ∷ zs) = refl

  pointwise-push : (x : X) (y : Y) (xs : List X) (ys : List Y)
      → pointwise eq (xs ++ x ∷ []) (ys ++ y ∷ []) ≡ (pointwise eq xs ys && eq x y)
  pointwise-push x y [] [] = and-true (eq x y)
  pointwise-push x y [] (z ∷ zs) = ap (λ b. eq x z && b) (longer y zs) ∙ and-false (eq x z)
  pointwise-push x y (z ∷ zs) [] = ap (λ b. eq z y && b) (shorter x zs) ∙ and-false (eq z y)
  pointwise-push x y (w ∷ ws) (z ∷ zs) = ap (λ b. eq w z && b) (pointwise-push x y ws zs)
      ∙ sym (and_assoc (eq w z) (pointwise eq ws zs) (eq x y))

  pub pointwise-reverse : (xs : List X) (ys : List Y) → pointwise eq (reverse xs) (reverse ys) ≡ pointwise eq xs ys
  pointwise-reverse [] [] = refl
  pointwise-reverse [] (y ∷ ys) = ap (pointwise eq []) (reverse-cons y ys) ∙ longer y (reverse ys)
  pointwise-reverse (x ∷ xs) [] = ap (λ l. pointwise eq l []) (reverse-cons x xs) ∙ shorter x (reverse xs)
  pointwise-reverse (x ∷ xs) (y ∷ ys) =
      ap (λ l. pointwise eq l (reverse (y ∷ ys))) (reverse-cons x xs)
      ∙ ap (pointwise eq (reverse xs ++ x ∷ [])) (reverse-cons y ys)
      ∙ pointwise-push x y (reverse xs) (reverse ys)
      ∙ ap (λ b. b && eq x y) (pointwise-reverse xs ys) ∙ and_comm (pointwise eq xs ys) (eq x y)
