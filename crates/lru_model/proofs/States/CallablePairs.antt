-- If a callback may be called with each of some pairs, it may still be called with them after pairs were evicted or
-- removed.
use Rattle.std.proofs.Common.{◌≡◌, ◌+◌, ◌≤◌, inl, inr, Bool, true, false, cond, List, [], ◌∷◌, length}
use Rattle.std.proofs.Common.{Option, Some, None, refl, ap, sym, subst, arith}
use Rattle.std.proofs.lemmas.List.Elements.{All-nil, All-cons, All-weaker, Contains-push, Contains-push_cases}
use Rattle.std.proofs.lemmas.List.Elements.{Contains-append_left, Contains-append_right, Contains-append_cases}
use Rattle.std.proofs.lemmas.Option.{none-some}
use Rattle.std.specs.Prelude.{Contains}
use Rattle.std.specs.Fn.{Mut, Called, Takes as MayBeCalled}
use Rattle.lru_limits.specs.Rules.{Rules}
use Rattle.lru_model.specs.Calls.{left_of, PopOldest}
use Rattle.lru_model.specs.Lists.{last, without_last, without, set_entry}
use Rattle.lru_model.specs.MayTake.{MayTakeEach, IsLeftOf}
use Rattle.lru_model.specs.State.{State}
use Rattle.lru_model.proofs.States.LeavingPairs.{length-without_last}

module _ {X : Type 0} where
  abbrev pub Covers : List X → List X → Type 0
  Covers xs ys = (x : X) → Contains ys x → Contains xs x

  pub here : (x : X) (xs : List X) → Contains (x ∷ xs) x
  here x xs = Contains-append_left (x ∷ []) xs x (Contains-push [] x)

  pub covers_rest : (x : X) (xs : List X) → Covers (x ∷ xs) xs
  covers_rest x xs y h = Contains-append_right (x ∷ []) xs y h

  in_two : (x : X) (xs : List X) (P : X → Type 0) → P x → ((y : X) → Contains xs y → P y) → (y : X)
      → Contains (x ∷ xs) y → P y
  in_two x xs P one others y h = elim (Contains-append_cases (x ∷ []) xs y h) [
    | inl head ↦ elim (Contains-push_cases [] x y head) [
      | inl none ↦ others y (Contains-append_right [] xs y (nothing y none))
      | inr is ↦ subst P is one
    ]
    | inr tail ↦ others y tail
  ]
    where
      nothing : (y : X) → Contains {X = X} [] y → Contains xs y
      nothing y (k, below, is) = absurd (grind (arith, below))

  pub covers_cons : (x : X) (xs ys : List X) → Covers xs ys → Covers (x ∷ xs) (x ∷ ys)
  covers_cons x xs ys h = in_two x ys (Contains (x ∷ xs)) (here x xs) (λ y there. covers_rest x xs y (h y there))

  pub covers_without_last : (xs : List X) → Covers xs (without_last xs)
  covers_without_last [] y h = h
  covers_without_last (x ∷ []) y h = covers_rest x [] y h
  covers_without_last (x ∷ z ∷ zs) y h =
      covers_cons x (z ∷ zs) (without_last (z ∷ zs)) (covers_without_last (z ∷ zs)) y h

  pub contains_last : (xs : List X) (x : X) → last xs ≡ Some x → Contains xs x
  contains_last [] x e = absurd (none-some x e)
  contains_last (x ∷ []) y e = subst (Contains (x ∷ [])) (ap (λ o. or_else o x) e) (here x [])
    where
      or_else : Option X → X → X
      or_else None d = d
      or_else (Some v) d = v
  contains_last (x ∷ z ∷ zs) y e = covers_rest x (z ∷ zs) y (contains_last (z ∷ zs) y e)

pub covers_set : {K V : Type 0} (names : K → Bool) (q : K × V) (xs : List (K × V))
    → Covers (q ∷ without names xs) (set_entry names q xs)
covers_set names q [] y h = covers_rest q [] y h
covers_set names q (x ∷ xs) y h = go (names x.0) (covers_set names q xs) y h
  where
    go : (b : Bool) → Covers (q ∷ without names xs) (set_entry names q xs)
        → Covers (q ∷ cond b xs (x ∷ without names xs)) (cond b (q ∷ xs) (x ∷ set_entry names q xs))
    go true h = λ y there. there
    go false h = in_two x (set_entry names q xs) (Contains (q ∷ x ∷ without names xs))
        (covers_rest q (x ∷ without names xs) x (here x (without names xs)))
        (λ y there. in_two q (without names xs) (Contains (q ∷ x ∷ without names xs)) (here q (x ∷ without names xs))
        (λ z later. covers_rest q (x ∷ without names xs) z (covers_rest x (without names xs) z later)) y (h y there))

module _ {K V S F : Type 0} (rules : Rules K V S) (closure : Mut F (K × (V × Unit {0})) (Unit {0})) where
  pub fewer_callable : (xs ys : List (K × V)) → Covers xs ys → length ys ≤ length xs → (f : F)
      → MayTakeEach rules closure xs f → MayTakeEach rules closure ys f
  fewer_callable xs ys covers fewer f may before g pair few all taken left =
      let widen : (p : K × V) → IsLeftOf rules ys p → IsLeftOf rules xs p = (λ p h. (h.0, h.1, covers h.1 h.2, h.3))
      in
      may before g pair (omega (arith, few, fewer))
      (All-weaker (IsLeftOf rules ys) (IsLeftOf rules xs) widen before all)
      taken (widen pair left)

  pub first_callable : (x : K × V) (xs : List (K × V)) (f : F) → MayTakeEach rules closure (x ∷ xs) f
      → MayTakeEach rules closure (x ∷ []) f
  first_callable x xs = fewer_callable (x ∷ xs) (x ∷ [])
      (in_two x [] (Contains (x ∷ xs)) (here x xs) (λ y (k, below, is). absurd (grind (arith, below)))) (omega arith)

  pub later_callable : (x : K × V) (xs : List (K × V)) (f : F) → MayTakeEach rules closure (x ∷ xs) f
      → MayTakeEach rules closure xs f
  later_callable x xs = fewer_callable (x ∷ xs) xs (covers_rest x xs) (omega arith)

  pub one_callable : (xs : List (K × V)) (s : S) (pair left : K × V) → Contains xs pair
      → Some left ≡ left_of rules s (Some pair) → (f : F) → MayTakeEach rules closure xs f
      → MayBeCalled closure f (left.0, (left.1, tt))
  one_callable xs s pair left there is f may =
      may [] f left (omega (arith, there.1)) (All-nil (IsLeftOf rules xs)) refl (s, pair, there, sym is)

  pub others_callable : (xs ys : List (K × V)) (s : S) (pair left : K × V) → Contains xs pair
      → Some left ≡ left_of rules s (Some pair) → Covers xs ys → length ys + 1 ≤ length xs → (f g : F)
      → Called closure f (left.0, (left.1, tt)) tt g → MayTakeEach rules closure xs f → MayTakeEach rules closure ys g
  others_callable xs ys s pair left there is covers fewer f g called may before h next few all taken passed =
      let widen : (p : K × V) → IsLeftOf rules ys p → IsLeftOf rules xs p = (λ p w. (w.0, w.1, covers w.1 w.2, w.3))
      in
      may (left ∷ before) h next (omega (arith, few, fewer))
      (All-cons (IsLeftOf rules xs) left before (s, pair, there, sym is)
      (All-weaker (IsLeftOf rules ys) (IsLeftOf rules xs) widen before all))
      (g, called, taken) (widen next passed)

  module _ {H : Type 0} (st u : State K V S H) (left : K × V) (popped : PopOldest rules st (Some left) u) where
    abbrev Oldest : Type 0
    Oldest = (pair : K × V) × (last st.pairs ≡ Some pair) × (Some left ≡ left_of rules st.limiter (Some pair))

    oldest : Oldest
    oldest = go (last st.pairs) refl popped.pair
      where
        go : (o : Option (K × V)) → last st.pairs ≡ o → Some left ≡ left_of rules st.limiter o → Oldest
        go None e h = absurd (none-some left (sym h))
        go (Some pair) e h = (pair, e, h)

    there : Contains st.pairs oldest.0
    there = contains_last st.pairs oldest.0 oldest.1

    rest_is : u.pairs ≡ without_last st.pairs
    rest_is = ap (λ s. s.pairs) popped.state.is

    one_fewer : length u.pairs + 1 ≤ length st.pairs
    one_fewer = omega (arith, ap length rest_is, length-without_last st.pairs, there.1)

    covers_rest_pairs : Covers st.pairs u.pairs
    covers_rest_pairs = subst (Covers st.pairs) (sym rest_is) (covers_without_last st.pairs)

    pub oldest_callable : (f : F) → MayTakeEach rules closure st.pairs f → MayBeCalled closure f (left.0, (left.1, tt))
    oldest_callable = one_callable st.pairs st.limiter oldest.0 left there oldest.2

    pub rest_callable : (f g : F) → Called closure f (left.0, (left.1, tt)) tt g
        → MayTakeEach rules closure st.pairs f → MayTakeEach rules closure u.pairs g
    rest_callable = others_callable st.pairs u.pairs st.limiter oldest.0 left there oldest.2 covers_rest_pairs one_fewer

    pub oldest_callable_with : (pair : K × V) (f : F) → MayTakeEach rules closure (pair ∷ st.pairs) f
        → MayBeCalled closure f (left.0, (left.1, tt))
    oldest_callable_with pair = one_callable (pair ∷ st.pairs) st.limiter oldest.0 left
        (covers_rest pair st.pairs oldest.0 there) oldest.2

    pub rest_callable_with : (pair : K × V) (f g : F) → Called closure f (left.0, (left.1, tt)) tt g
        → MayTakeEach rules closure (pair ∷ st.pairs) f → MayTakeEach rules closure (pair ∷ u.pairs) g
    rest_callable_with pair = others_callable (pair ∷ st.pairs) (pair ∷ u.pairs) st.limiter oldest.0 left
        (covers_rest pair st.pairs oldest.0 there) oldest.2 (covers_cons pair st.pairs u.pairs covers_rest_pairs)
        (omega (arith, one_fewer))
