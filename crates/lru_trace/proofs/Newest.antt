-- The keys in a list of slots.
use Rattle.std.proofs.Common.{◌≡◌, ℕ, suc, ◌+◌, ◌≤◌, ◌<◌, Bool, true, false, List, [], ◌∷◌, ◌++◌}
use Rattle.std.proofs.Common.{length, get_or, set, take, drop, Option, Some, None, refl, sym, ap, ◌∙◌, arith, cond}
use Rattle.std.proofs.Common.{inl, inr}
use Rattle.std.specs.Prelude.{nat_eq, ◌||◌, ◌^◌, ◌-◌, sum_by}
use Rattle.std.specs.Option.{option_to_list}
use Rattle.std.specs.Set.{remove_key}
use Rattle.std.proofs.lemmas.Bool.{cases_lt, eq-eqb, eqb-true, or_parts}
use Rattle.std.proofs.lemmas.Grind.{get_or-set_at}
use Rattle.std.proofs.lemmas.List.{append_assoc, append-nil, length-append, take-append-drop, drop_more, set_split}
use Rattle.std.proofs.lemmas.List.{take_more, length-take, get_or_past, length-set}
use Rattle.std.proofs.lemmas.List.Folds.{list_any-append}
use Rattle.std.proofs.lemmas.List.Sums.{sum_by-cons, sum_by-append}
use Rattle.std.proofs.lemmas.Option.{none-some}
use Rattle.lru_theory.specs.Traces.{is_in, since}
use Rattle.lru_trace.specs.Slots.{newest, live, held, slot_weight, weight_of}
use Rattle.lru_trace.proofs.Marks.{differ}

pub newest_append : (xs ys : List (Option ℕ)) → newest (xs ++ ys) ≡ newest ys ++ newest xs
newest_append [] ys = sym (append-nil (newest ys))
newest_append (x ∷ xs) ys =
    ap (λ zs. zs ++ option_to_list x) (newest_append xs ys)
    ∙ append_assoc (newest ys) (newest xs) (option_to_list x)

pub newest_push : (xs : List (Option ℕ)) (key : ℕ) → newest (xs ++ Some key ∷ []) ≡ key ∷ newest xs
newest_push xs key = newest_append xs (Some key ∷ [])

pub newest_absent : (key : ℕ) (xs : List (Option ℕ)) → ((i : ℕ) → get_or xs i None ≡ Some key → ⊥)
    → is_in nat_eq key (newest xs) ≡ false
newest_absent key [] none = refl
newest_absent key (x ∷ xs) none =
    list_any-append (nat_eq key) (newest xs) (option_to_list x)
    ∙ ap (λ b. b || is_in nat_eq key (option_to_list x)) (newest_absent key xs (λ i. none (suc i)))
    ∙ go x (none 0)
  where
    go : (o : Option ℕ) → (o ≡ Some key → ⊥) → is_in nat_eq key (option_to_list o) ≡ false
    go None h = refl
    go (Some k) h = test (nat_eq key k) refl
      where
        test : (b : Bool) → nat_eq key k ≡ b → (b || false) ≡ false
        test false e = refl
        test true e = absurd (h (ap Some (sym (eqb-true key k e))))

pub newest_split : (xs : List (Option ℕ)) (slot key : ℕ) → slot < length xs → get_or xs slot None ≡ Some key
    → newest xs ≡ newest (drop (slot + 1) xs) ++ key ∷ newest (take slot xs)
newest_split xs slot key within is =
    ap newest (sym (take-append-drop slot xs) ∙ ap (λ ys. take slot xs ++ ys) (drop_more xs slot None within
    ∙ ap (λ o. o ∷ drop (slot + 1) xs) is))
    ∙ newest_append (take slot xs) (Some key ∷ drop (slot + 1) xs)
    ∙ append_assoc (newest (drop (slot + 1) xs)) (key ∷ []) (newest (take slot xs))

pub newest_freed : (xs : List (Option ℕ)) (slot : ℕ) → slot < length xs
    → newest (set xs slot None) ≡ newest (drop (slot + 1) xs) ++ newest (take slot xs)
newest_freed xs slot within =
    ap newest (set_split xs slot None within ∙ ap (λ n. take slot xs ++ None ∷ drop n xs)
    (let e : suc slot ≡ slot + 1 = omega arith in e))
    ∙ newest_append (take slot xs) (None ∷ drop (slot + 1) xs)
    ∙ ap (λ ys. ys ++ newest (take slot xs)) (append-nil (newest (drop (slot + 1) xs)))

module _ (key : ℕ) where
  self : nat_eq key key ≡ true
  self = eq-eqb key key refl

  pub is_in_middle : (xs ys : List ℕ) → is_in nat_eq key (xs ++ key ∷ ys) ≡ true
  is_in_middle [] ys = rw self refl
  is_in_middle (x ∷ xs) ys = go (nat_eq key x) (is_in_middle xs ys)
    where
      go : (b : Bool) → is_in nat_eq key (xs ++ key ∷ ys) ≡ true → (b || is_in nat_eq key (xs ++ key ∷ ys)) ≡ true
      go true ih = refl
      go false ih = ih

  pub since_middle : (xs ys : List ℕ) → is_in nat_eq key xs ≡ false → since nat_eq key (xs ++ key ∷ ys) ≡ xs
  since_middle [] ys e = rw self refl
  since_middle (x ∷ xs) ys e =
      let parts = or_parts (nat_eq key x) (is_in nat_eq key xs) e in
      rw parts.0 (ap (λ zs. x ∷ zs) (since_middle xs ys parts.1))

  pub without_middle : (xs ys : List ℕ) → is_in nat_eq key xs ≡ false
      → remove_key (nat_eq key) (xs ++ key ∷ ys) ≡ xs ++ ys
  without_middle [] ys e = rw self refl
  without_middle (x ∷ xs) ys e =
      let parts = or_parts (nat_eq key x) (is_in nat_eq key xs) e in
      rw parts.0 (ap (λ zs. x ∷ zs) (without_middle xs ys parts.1))

pub held_key : (number : ℕ) → (number ≡ 2 ^ 32 - 1 → ⊥) → held number ≡ Some number
held_key number some = ap (λ b. cond b None (Some number)) (differ number (2 ^ 32 - 1) some)

pub held_free : (number : ℕ) → number ≡ 2 ^ 32 - 1 → held number ≡ None
held_free number free = ap (λ b. cond b None (Some number)) (eq-eqb number (2 ^ 32 - 1) free)

one_weight : (weight : ℕ → ℕ) (o : Option ℕ) → weight_of weight o ≡ sum_by weight (option_to_list o)
one_weight weight None = refl
one_weight weight (Some key) = omega arith

pub slot_weights : (weight : ℕ → ℕ) (log : List ℕ) → sum_by (slot_weight weight) log ≡ sum_by weight (newest (live log))
slot_weights weight [] = refl
slot_weights weight (number ∷ log) = omega (
  arith,
  slot_weights weight log,
  sum_by-cons (slot_weight weight) number log,
  one_weight weight (held number),
  sum_by-append weight (newest (live log)) (option_to_list (held number)),
)

pub erased : (xs : List (Option ℕ)) (i j : ℕ) → j ≡ i → get_or (set xs i None) j None ≡ None
erased xs i j same = elim (cases_lt i (length xs)) [
  | inl h ↦ get_or-set_at xs i j None None same h
  | inr h ↦ get_or_past (set xs i None) j None (omega (arith, same, h, length-set xs i None))
]

pub taken_within : (n : ℕ) (xs : List (Option ℕ)) (i key : ℕ) → get_or (take n xs) i None ≡ Some key → i < n
taken_within n xs i key e = elim (cases_lt i n) [
  | inl h ↦ h
  | inr h ↦ absurd (none-some key (sym (get_or_past (take n xs) i None (omega (arith, h, length-take n xs))) ∙ e))
]

pub newest_few : (xs : List (Option ℕ)) → length (newest xs) ≤ length xs
newest_few [] = omega arith
newest_few (x ∷ xs) = omega (arith, newest_few xs, length-append (newest xs) (option_to_list x), go x)
  where
    go : (o : Option ℕ) → length (option_to_list o) ≤ 1
    go None = omega arith
    go (Some k) = omega arith

pub newest_more : (xs : List (Option ℕ)) (i : ℕ) (o : Option ℕ) → i < length xs → get_or xs i None ≡ o
    → newest (take (i + 1) xs) ≡ option_to_list o ++ newest (take i xs)
newest_more xs i o h e =
    ap newest (take_more xs i None h ∙ ap (λ x. take i xs ++ x ∷ []) e)
    ∙ newest_append (take i xs) (o ∷ [])

pub newest_taken : (xs : List (Option ℕ)) (i : ℕ) → length (newest (take i xs)) ≤ length (newest xs)
newest_taken xs i =
    let parts = ap newest (sym (take-append-drop i xs)) ∙ newest_append (take i xs) (drop i xs) in
    omega (arith, ap length parts, length-append (newest (drop i xs)) (newest (take i xs)))
