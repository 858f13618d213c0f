-- A trace of texts and the trace of their numbers miss at the same references.
use Rattle.std.proofs.Common.{◌≡◌, ℕ, zero, suc, ◌+◌, ◌≤◌, ◌<◌, Bool, true, false, cond, List, [], ◌∷◌, ◌++◌, length, map}
use Rattle.std.proofs.Common.{take, set, sum}
use Rattle.std.proofs.Common.{get_or, Option, Some, None, refl, sym, ap, ◌∙◌, arith, inl, inr, ◌⊎◌}
use Rattle.std.specs.Prelude.{nat_eq, ◌||◌, nat_le, not}
use Rattle.std.specs.List.{position}
use Rattle.std.specs.Set.{remove_key}
use Rattle.std.specs.Str.{bytes_eq}
use Rattle.std.proofs.lemmas.Bool.{cases_lt, eq-eqb, eqb-true, le-leb, lt-leb}
use Rattle.std.proofs.lemmas.Grind.{common_steps}
use Rattle.std.proofs.lemmas.List.Quantifiers.{position-Some}
use Rattle.std.proofs.lemmas.List.Sums.{sum_by-cons, prefix_len-le-length}
use Rattle.std.proofs.lemmas.Option.{same_Some}
use Rattle.std.proofs.lemmas.Slice.Eq.{bytes_eq-Decides}
use Rattle.lru_theory.specs.Best.{until}
use Rattle.lru_theory.specs.Traces.{is_in, since, recency, distance, misses, past_after}
use Rattle.lru_trace.specs.Names.{number_in}
use Rattle.lru_trace.specs.Times.{next_times}

module _ {X : Type 0} (p : X → Bool) (xs : List X) (y : X) where
  found_on : (n : ℕ) → position p xs ≡ Some n → position p (xs ++ y ∷ []) ≡ Some n
  found_on n e = grind (arith, common_steps)

  found_new : position p xs ≡ None → p y ≡ true → position p (xs ++ y ∷ []) ≡ Some (length xs)
  found_new none e = let few = prefix_len-le-length (λ x. not (p x)) xs in grind (arith, common_steps)

  found_last : (n : ℕ) → position p xs ≡ None → position p (xs ++ y ∷ []) ≡ Some n → (p y ≡ true) × (n ≡ length xs)
  found_last n none e =
      let few = prefix_len-le-length (λ x. not (p x)) xs in
      (grind (arith, common_steps), grind (arith, common_steps))

module _ (names : List (List ℕ)) where
  pub small : (key : List ℕ) (n : ℕ) → number_in names key ≡ Some n → n < length names
  small key n e = (position-Some (bytes_eq key) names n [] e).0

  pub apart : (a b : List ℕ) (n : ℕ) → number_in names a ≡ Some n → number_in names b ≡ Some n → a ≡ b
  apart a b n d e = at a d ∙ sym (at b e)
    where
      at : (x : List ℕ) → number_in names x ≡ Some n → x ≡ get_or names n []
      at x e = (bytes_eq-Decides x (get_or names n [])).0 (position-Some (bytes_eq x) names n [] e).1

  module _ (key : List ℕ) where
    pub kept_more : (x : List ℕ) (n : ℕ) → number_in names x ≡ Some n → number_in (names ++ key ∷ []) x ≡ Some n
    kept_more x n e = found_on (bytes_eq x) names key n e

    pub found_more : number_in names key ≡ None → number_in (names ++ key ∷ []) key ≡ Some (length names)
    found_more none = found_new (bytes_eq key) names key none ((bytes_eq-Decides key key).1 refl)

    pub cases : (x : List ℕ) (n : ℕ) → number_in (names ++ key ∷ []) x ≡ Some n
        → ((x ≡ key) × (n ≡ length names)) ⊎ (number_in names x ≡ Some n)
    cases x n e = go (number_in names x) refl
      where
        go : (o : Option ℕ) → number_in names x ≡ o → ((x ≡ key) × (n ≡ length names)) ⊎ (number_in names x ≡ Some n)
        go (Some m) is = inr (is ∙ sym (kept_more x m is) ∙ e)
        go None none =
            let last = found_last (bytes_eq x) names key n none e in
            inl ((bytes_eq-Decides x key).0 last.0, last.1)

abbrev pub Named : (List ℕ → Option ℕ) → List (List ℕ) → List ℕ → Type 0
Named number [] [] = Unit {0}
Named number [] (n ∷ ns) = ⊥
Named number (x ∷ xs) [] = ⊥
Named number (x ∷ xs) (n ∷ ns) = (number x ≡ Some n) × Named number xs ns

abbrev first_of : {A : Type 0} → A → List A → A
first_of x [] = x
first_of x (y ∷ ys) = y

abbrev rest_of : {A : Type 0} → List A → List A
rest_of [] = []
rest_of (y ∷ ys) = ys

pub named_from : (number : List ℕ → Option ℕ) (xs : List (List ℕ)) (ns : List ℕ) → map number xs ≡ map Some ns
    → Named number xs ns
named_from number [] [] e = tt
named_from number [] (n ∷ ns) e = absurd cc
named_from number (x ∷ xs) [] e = absurd cc
named_from number (x ∷ xs) (n ∷ ns) e = (ap (first_of None) e, named_from number xs ns (ap rest_of e))

pub none_named : (ns : List ℕ) → [] ≡ map Some ns → ns ≡ []
none_named [] e = refl
none_named (n ∷ ns) e = absurd cc

pub named_on : (number new : List ℕ → Option ℕ) → ((x : List ℕ) (n : ℕ) → number x ≡ Some n → new x ≡ Some n)
    → (xs : List (List ℕ)) (ns : List ℕ) → map number xs ≡ map Some ns → map new xs ≡ map Some ns
named_on number new keeps [] [] e = refl
named_on number new keeps [] (n ∷ ns) e = absurd cc
named_on number new keeps (x ∷ xs) [] e = absurd cc
named_on number new keeps (x ∷ xs) (n ∷ ns) e =
    λ i. keeps x n (ap (first_of None) e) i ∷ named_on number new keeps xs ns (ap rest_of e) i

pub same_test : (number : List ℕ → Option ℕ) → ((a b : List ℕ) (n : ℕ) → number a ≡ Some n → number b ≡ Some n → a ≡ b)
    → (a b : List ℕ) (m n : ℕ) → number a ≡ Some m → number b ≡ Some n → bytes_eq a b ≡ nat_eq m n
same_test number apart a b m n d e = go (nat_eq m n) refl
  where
    go : (t : Bool) → nat_eq m n ≡ t → bytes_eq a b ≡ t
    go true same = (bytes_eq-Decides a b).1 (apart a b m d (e ∙ ap Some (sym (eqb-true m n same))))
    go false other = test (bytes_eq a b) refl
      where
        test : (t : Bool) → bytes_eq a b ≡ t → t ≡ false
        test false h = refl
        test true h =
            let same : m ≡ n = same_Some m n (sym d ∙ ap number ((bytes_eq-Decides a b).0 h) ∙ e) in
            sym (eq-eqb m n same) ∙ other

module _ (names : List (List ℕ)) where
  abbrev number : List ℕ → Option ℕ
  number = number_in names

  same : (a b : List ℕ) (m n : ℕ) → number a ≡ Some m → number b ≡ Some n → bytes_eq a b ≡ nat_eq m n
  same = same_test number (apart names)

  pub is_in_named : (x : List ℕ) (n : ℕ) → number x ≡ Some n → (xs : List (List ℕ)) (ns : List ℕ) → Named number xs ns
      → is_in bytes_eq x xs ≡ is_in nat_eq n ns
  is_in_named x n e [] [] h = refl
  is_in_named x n e [] (k ∷ ns) h = absurd h
  is_in_named x n e (y ∷ xs) [] h = absurd h
  is_in_named x n e (y ∷ xs) (k ∷ ns) h = rw (same x y n k e h.0, is_in_named x n e xs ns h.1) refl

  pub since_named : (x : List ℕ) (n : ℕ) → number x ≡ Some n → (xs : List (List ℕ)) (ns : List ℕ) → Named number xs ns
      → Named number (since bytes_eq x xs) (since nat_eq n ns)
  since_named x n e [] [] h = tt
  since_named x n e [] (k ∷ ns) h = absurd h
  since_named x n e (y ∷ xs) [] h = absurd h
  since_named x n e (y ∷ xs) (k ∷ ns) h =
      rw (same x y n k e h.0) (go (nat_eq n k) (since_named x n e xs ns h.1))
    where
      go : (t : Bool) → Named number (since bytes_eq x xs) (since nat_eq n ns)
          → Named number (cond t [] (y ∷ since bytes_eq x xs)) (cond t [] (k ∷ since nat_eq n ns))
      go true later = tt
      go false later = (h.0, later)

  without_named : (x : List ℕ) (n : ℕ) → number x ≡ Some n → (xs : List (List ℕ)) (ns : List ℕ) → Named number xs ns
      → Named number (remove_key (bytes_eq x) xs) (remove_key (nat_eq n) ns)
  without_named x n e [] [] h = tt
  without_named x n e [] (k ∷ ns) h = absurd h
  without_named x n e (y ∷ xs) [] h = absurd h
  without_named x n e (y ∷ xs) (k ∷ ns) h =
      rw (same x y n k e h.0) (go (nat_eq n k) (without_named x n e xs ns h.1))
    where
      go : (t : Bool) → Named number (remove_key (bytes_eq x) xs) (remove_key (nat_eq n) ns)
          → Named number (cond t xs (y ∷ remove_key (bytes_eq x) xs)) (cond t ns (k ∷ remove_key (nat_eq n) ns))
      go true later = h.1
      go false later = (h.0, later)

  pub recency_named : (xs : List (List ℕ)) (ns : List ℕ) → Named number xs ns
      → Named number (recency bytes_eq xs) (recency nat_eq ns)
  recency_named [] [] h = tt
  recency_named [] (k ∷ ns) h = absurd h
  recency_named (y ∷ xs) [] h = absurd h
  recency_named (y ∷ xs) (k ∷ ns) h =
      (h.0, without_named y k h.0 (recency bytes_eq xs) (recency nat_eq ns) (recency_named xs ns h.1))

  length_named : (xs : List (List ℕ)) (ns : List ℕ) → Named number xs ns → length xs ≡ length ns
  length_named [] [] h = refl
  length_named [] (k ∷ ns) h = absurd h
  length_named (y ∷ xs) [] h = absurd h
  length_named (y ∷ xs) (k ∷ ns) h = ap suc (length_named xs ns h.1)

  until_named : (x : List ℕ) (n : ℕ) → number x ≡ Some n → (xs : List (List ℕ)) (ns : List ℕ) → Named number xs ns
      → until bytes_eq x xs ≡ until nat_eq n ns
  until_named x n e [] [] h = refl
  until_named x n e [] (k ∷ ns) h = absurd h
  until_named x n e (y ∷ xs) [] h = absurd h
  until_named x n e (y ∷ xs) (k ∷ ns) h = rw (same x y n k e h.0, until_named x n e xs ns h.1) refl

  pub next_times_named : (i : ℕ) (xs : List (List ℕ)) (ns : List ℕ) → Named number xs ns
      → next_times bytes_eq i xs ≡ next_times nat_eq i ns
  next_times_named i [] [] h = refl
  next_times_named i [] (k ∷ ns) h = absurd h
  next_times_named i (y ∷ xs) [] h = absurd h
  next_times_named i (y ∷ xs) (k ∷ ns) h =
      let wait = until_named y k h.0 xs ns h.1 in
      let later = next_times_named (suc i) xs ns h.1 in
      λ j. (suc i + wait j) ∷ later j

  misses_named : (n : ℕ) (past : List (List ℕ)) (ps : List ℕ) (xs : List (List ℕ)) (ns : List ℕ)
      → Named number past ps → Named number xs ns → misses bytes_eq n past xs ≡ misses nat_eq n ps ns
  misses_named n past ps [] [] before h = refl
  misses_named n past ps [] (k ∷ ns) before h = absurd h
  misses_named n past ps (y ∷ xs) [] before h = absurd h
  misses_named n past ps (y ∷ xs) (k ∷ ns) before h =
      let far : distance bytes_eq y past ≡ distance nat_eq k ps =
      length_named (recency bytes_eq (since bytes_eq y past)) (recency nat_eq (since nat_eq k ps))
      (recency_named (since bytes_eq y past) (since nat_eq k ps) (since_named y k h.0 past ps before)) in
      rw (misses_named n (y ∷ past) (k ∷ ps) xs ns (h.0, before) h.1, is_in_named y k h.0 past ps before, far) refl

  past_named : (past : List (List ℕ)) (ps : List ℕ) (xs : List (List ℕ)) (ns : List ℕ) → Named number past ps
      → Named number xs ns → Named number (past_after past xs) (past_after ps ns)
  past_named past ps [] [] before h = before
  past_named past ps [] (k ∷ ns) before h = absurd h
  past_named past ps (y ∷ xs) [] before h = absurd h
  past_named past ps (y ∷ xs) (k ∷ ns) before h = past_named (y ∷ past) (k ∷ ps) xs ns (h.0, before) h.1

  module _ (warm trace : List (List ℕ)) (before numbers : List ℕ) (warmed : map number warm ≡ map Some before)
      (named : map number trace ≡ map Some numbers) where
    pub warm_named : Named number (past_after [] warm) (past_after [] before)
    warm_named = past_named [] [] warm before tt (named_from number warm before warmed)

    pub all_named : Named number (past_after (past_after [] warm) trace) (past_after (past_after [] before) numbers)
    all_named = past_named (past_after [] warm) (past_after [] before) trace numbers warm_named
        (named_from number trace numbers named)

    pub keys_named : length (recency bytes_eq (past_after (past_after [] warm) trace))
        ≡ length (recency nat_eq (past_after (past_after [] before) numbers))
    keys_named =
        let past = past_after (past_after [] warm) trace in
        let ns = past_after (past_after [] before) numbers in
        length_named (recency bytes_eq past) (recency nat_eq ns) (recency_named past ns all_named)

    pub warm_misses_named : (n : ℕ)
        → misses bytes_eq n (past_after [] warm) trace ≡ misses nat_eq n (past_after [] before) numbers
    warm_misses_named n = misses_named n (past_after [] warm) (past_after [] before) trace numbers warm_named
        (named_from number trace numbers named)

pub position_within : (key : ℕ) (xs : List ℕ) → is_in nat_eq key xs ≡ true → length (since nat_eq key xs) < length xs
position_within key [] e = absurd cc
position_within key (x ∷ xs) e = go (nat_eq key x) e (position_within key xs)
  where
    go : (t : Bool) → (t || is_in nat_eq key xs) ≡ true
        → (is_in nat_eq key xs ≡ true → length (since nat_eq key xs) < length xs)
        → length (cond t [] (x ∷ since nat_eq key xs)) < suc (length xs)
    go true e later = omega arith
    go false e later = omega (arith, later e)

pub counted : (d n : ℕ) (counts : List ℕ) → d < length counts
    → sum (take n (set counts d (get_or counts d 0 + 1))) + cond (nat_le n d) 1 0
    ≡ sum (take n counts) + 1
counted d zero counts h = rw (le-leb 0 d (omega arith)) refl
counted d (suc n) [] h = absurd (omega (arith, h))
counted zero (suc n) (x ∷ xs) h =
    rw (lt-leb (suc n) 0 (omega arith))
    (let a = sum_by-cons (λ y. y) (x + 1) (take n xs) in let b = sum_by-cons (λ y. y) x (take n xs) in omega
    (arith, a, b))
counted (suc d) (suc n) (x ∷ xs) h =
    let ih = counted d n xs (omega (arith, h)) in
    let a = sum_by-cons (λ y. y) x (take n (set xs d (get_or xs d 0 + 1))) in
    let b = sum_by-cons (λ y. y) x (take n xs) in
    rw (go (cases_lt d n)) (omega (arith, ih, a, b))
  where
    go : (d < n) ⊎ (n ≤ d) → nat_le (suc n) (suc d) ≡ nat_le n d
    go (inl few) = lt-leb (suc n) (suc d) (omega (arith, few)) ∙ sym (lt-leb n d few)
    go (inr many) = le-leb (suc n) (suc d) (omega (arith, many)) ∙ sym (le-leb n d many)
