use Rattle.std.proofs.Common.{◌≡◌, ℕ, ◌-◌, ◌<◌, ◌≤◌, Bool, true, false, Some, List, [], ◌∷◌, ◌++◌, length, refl, ap, sym}
use Rattle.std.proofs.Common.{◌∙◌, subst, arith, append-nil, slice_get}
use Rattle.std.proofs.lemmas.List.{append_assoc, length-append, nil_from_length}
use Rattle.std.proofs.lemmas.Option.{same_Some}
use Rattle.std.specs.Prelude.{map, Contains}
use Rattle.std.specs.Borrow.{Bor}
use Rattle.std.specs.Fn.{Mut, Called, Takes as MayBeCalled}
use Rattle.lru_limits.specs.Rules.{Rules}
use Rattle.lru_model.specs.ByHash.{Asks}
use Rattle.lru_model.specs.State.{State, Contents, contents, Leaves, notified_of}
use Rattle.lru_model.specs.Calls.{TakesOut}
use Rattle.lru_model.specs.Callbacks.{noting, noted, CalledWith}
use Rattle.lru_model.specs.MayTake.{MayTakeEach}
use Rattle.lru_model.specs.Retains.{retained, Answers, RetainPasses}
use Rattle.lru_model.proofs.States.CallablePairs.{Covers, covers_rest, covers_cons, one_callable}
use Rattle.lru_model.proofs.States.CallablePairs.{others_callable as without_one}
use Rattle.lru_model.proofs.States.LeavingPairs.{leaves_trans, leaves_self}
use Rattle.ordered_table.proofs.Tables.Places.{got_in}
use Rattle.schnellru.proofs.Maps.NotedStates.{takes_more, noted_taken}

module _ {X : Type 0} where
  record HasEnd (xs : List X) : Type 0 where
    front : List X
    end : X
    whole : xs ≡ front ++ end ∷ []

  has_end : (xs : List X) → 0 < length xs → HasEnd xs
  has_end [] some = absurd (omega (arith, some))
  has_end (x ∷ []) some = record { front = []; end = x; whole = refl }
  has_end (x ∷ y ∷ ys) some = let rest = has_end (y ∷ ys) (omega arith) in
      record { front = x ∷ rest.front; end = rest.end; whole = ap (λ l. x ∷ l) rest.whole }

  pub at_cut : (xs ys : List X) (x : X) → slice_get (xs ++ x ∷ ys) (length xs) ≡ Some x
  at_cut [] ys x = refl
  at_cut (z ∷ xs) ys x = at_cut xs ys x

  fewer_cut : (xs ys : List X) (x : X) → Covers (xs ++ x ∷ ys) (xs ++ ys)
  fewer_cut [] ys x = covers_rest x ys
  fewer_cut (z ∷ xs) ys x = covers_cons z (xs ++ x ∷ ys) (xs ++ ys) (fewer_cut xs ys x)

module _ {K V S H F G : Type 0} (rules : Rules K V S) (closure : Mut F (Bor K × (Bor V × Unit {0})) Bool)
    (sinks : Mut G (K × (V × Unit {0})) (Unit {0})) (old : State K V S H) (keep : F) (sink : G) where
  abbrev after_asked : List ((K × V) × Bool) → Contents K V (S × List (K × V))
  after_asked asked = retained (noting rules) asked (old.limiter, [])

  -- The closure has still to be called with the `left` newest pairs. In the map, these come before the kept pairs.
  pub record IsRetainedTo (left : ℕ) (st : State K V S H) (f : F) (g : G) : Type 0 where
    pub asked : List ((K × V) × Bool)
    pub rest : List (K × V)
    pub whole : rest ++ map (λ one. one.0) asked ≡ old.pairs
    pub many : length rest ≡ left
    pub answers : Answers closure keep asked f
    pub passed : List (K × V)
    pub takes : CalledWith sinks sink passed g
    pub pairs : st.pairs ≡ rest ++ (after_asked asked).pairs
    pub notified : ◌≡◌ {A = S × List (K × V)} (st.limiter, passed) (after_asked asked).limiter
    pub leaves : Leaves (noted [] old) (contents (noted passed st)) (noted passed st)

  pub many_retained : (left : ℕ) (st : State K V S H) (f : F) (g : G) → IsRetainedTo left st f g → left ≤ length st.pairs
  many_retained left st f g so =
      omega (arith, ap length so.pairs, length-append so.rest (after_asked so.asked).pairs, so.many)

  pub retains_none : IsRetainedTo (length old.pairs) old keep sink
  retains_none = record {
    asked = [];
    rest = old.pairs;
    whole = append-nil old.pairs;
    many = refl;
    answers = refl;
    passed = [];
    takes = refl;
    pairs = sym (append-nil old.pairs);
    notified = refl;
    leaves = leaves_self (noted [] old);
  }

  module _ (left : ℕ) (some : 0 < left) (st : State K V S H) (f : F) (g : G) (i : IsRetainedTo left st f g)
      (pair : K × V) (asks : slice_get st.pairs (left - 1) ≡ Some pair) where
    abbrev its_end : HasEnd i.rest
    its_end = has_end i.rest (omega (arith, i.many, some))

    abbrev front : List (K × V)
    front = its_end.front

    abbrev kept : List (K × V)
    kept = (after_asked i.asked).pairs

    many : length front ≡ left - 1
    many = omega (arith, ap length its_end.whole, length-append its_end.front (its_end.end ∷ []), i.many)

    shape : st.pairs ≡ front ++ its_end.end ∷ kept
    shape = i.pairs ∙ ap (λ l. l ++ kept) its_end.whole ∙ append_assoc front (its_end.end ∷ []) kept

    is_pair : its_end.end ≡ pair
    is_pair = same_Some its_end.end pair (sym (at_cut front kept its_end.end)
        ∙ (λ j. slice_get (sym shape j) (many j)) ∙ asks)

    parted : st.pairs ≡ front ++ pair ∷ kept
    parted = shape ∙ ap (λ p. front ++ p ∷ kept) is_pair

    whole : front ++ pair ∷ map (λ one. one.0) i.asked ≡ old.pairs
    whole = sym (append_assoc front (pair ∷ []) (map (λ one. one.0) i.asked))
        ∙ ap (λ p. (front ++ p ∷ []) ++ map (λ one. one.0) i.asked) (sym is_pair)
        ∙ ap (λ l. l ++ map (λ one. one.0) i.asked) (sym its_end.whole) ∙ i.whole

    pub retains_more : (h : F) → Asks closure f pair true h → IsRetainedTo (left - 1) st h g
    retains_more h answer = record {
      asked = (pair, true) ∷ i.asked;
      rest = front;
      whole = whole;
      many = many;
      answers = (f, i.answers, answer);
      passed = i.passed;
      takes = i.takes;
      pairs = parted;
      notified = i.notified;
      leaves = i.leaves;
    }

    module _ (u : State K V S H) (removed : K × V)
        (takes : (newer older : List (K × V)) (p : K × V) → st.pairs ≡ newer ++ p ∷ older → length newer ≡ left - 1
        → TakesOut rules (Some p) (newer ++ older) st (Some removed) u) where
      taken : TakesOut rules (Some pair) (front ++ kept) st (Some removed) u
      taken = takes front kept pair parted many

      pub removes_more : (h : F) → Asks closure f pair false h → (k : G)
          → Called sinks g (removed.0, (removed.1, tt)) tt k → IsRetainedTo (left - 1) u h k
      removes_more h answer k called =
          let noted_it = noted_taken rules i.passed st u removed (Some pair) (front ++ kept) taken in record {
            asked = (pair, false) ∷ i.asked;
            rest = front;
            whole = whole;
            many = many;
            answers = (f, i.answers, answer);
            passed = i.passed ++ removed ∷ [];
            takes = takes_more sinks sink i.passed g removed k i.takes called;
            pairs = ap (λ s. s.pairs) taken.state.is;
            notified = ap (λ s. s.limiter) noted_it.is ∙ ap (notified_of (noting rules) (Some pair)) i.notified;
            leaves = leaves_trans (noted [] old) (noted i.passed st) (noted (i.passed ++ removed ∷ []) u)
                (contents (noted i.passed st)) (contents (noted (i.passed ++ removed ∷ []) u)) i.leaves
                (subst (λ left. Leaves (noted i.passed st) left (noted (i.passed ++ removed ∷ []) u))
                (sym (ap contents noted_it.is)) noted_it);
          }

      there : Contains st.pairs pair
      there = got_in st.pairs (left - 1) pair asks

      pub removed_callable : MayTakeEach rules sinks st.pairs g → MayBeCalled sinks g (removed.0, (removed.1, tt))
      removed_callable = one_callable rules sinks st.pairs st.limiter pair removed there taken.pair g

      pub others_callable : (k : G) → Called sinks g (removed.0, (removed.1, tt)) tt k
          → MayTakeEach rules sinks st.pairs g → MayTakeEach rules sinks u.pairs k
      others_callable k = without_one rules sinks st.pairs u.pairs st.limiter pair removed there taken.pair
          (λ x w. subst (λ l. Contains l x) (sym parted)
          (fewer_cut front kept pair x (subst (λ l. Contains l x) (ap (λ s. s.pairs) taken.state.is) w)))
          (omega (
            arith,
            ap length (ap (λ s. s.pairs) taken.state.is),
            ap length parted,
            length-append front kept,
            length-append front (pair ∷ kept),
          )) g k

  pub retains_all : (st : State K V S H) (f : F) (g : G) → (i : IsRetainedTo 0 st f g)
      → RetainPasses rules closure keep old i.passed st
  retains_all st f g i = record {
    asked = i.asked;
    each = ap (λ l. l ++ map (λ one. one.0) i.asked) (sym (nil_from_length i.rest i.many)) ∙ i.whole;
    last = f;
    answers = i.answers;
    state = subst (λ left. Leaves (noted [] old) left (noted i.passed st)) (λ j. record {
      pairs = (i.pairs ∙ ap (λ l. l ++ (after_asked i.asked).pairs) (nil_from_length i.rest i.many)) j;
      limiter = i.notified j;
    }) i.leaves;
  }
