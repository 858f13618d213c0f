-- The steps of `Places`.
use Rattle.std.proofs.Common.{◌≡◌, ℕ, ◌+◌, ◌≤◌, ◌<◌, Bool, true, false, cond, List, ◌∷◌, length, map}
use Rattle.std.proofs.Common.{Option, Some, None, refl, sym, ap, ◌∙◌, arith, inl, inr, subst}
use Rattle.std.proofs.lemmas.Bool.{eq-eqb, eqb-true, ne_eqb, or_right, both_ways, cases_order, lt-ltb, le-ltb}
use Rattle.std.proofs.lemmas.Option.{none-some, same_Some}
use Rattle.std.specs.BTreeMap.{is_at}
use Rattle.std.specs.Ordering.{nat_cmp}
use Rattle.std.specs.Prelude.{◌||◌, nat_eq, is_some, IfSome}
use Rattle.std.specs.Set.{remove_key}
use Rattle.lru_theory.specs.Places.{keys_in, freed, vacated}
use Rattle.lru_theory.specs.Traces.{is_in}
use Rattle.lru_theory.proofs.Windows.{in_less}
use Rattle.lru_trace.specs.Places.{mark, owns, Falls, ArePlaces, Chosen, stays, takes, after_taken, free_at, is_free}
use Rattle.lru_trace.specs.Places.{time_in, IsSomeAnd}
use Rattle.lru_trace.specs.Slots.{Recent}
use Rattle.lru_trace.proofs.Marks.{below, same_time, in_marks, marks_moved, marks_freed, never, or_false}
use Rattle.lru_trace.proofs.Marks.{there, differ, removed_out, kept_in, falls_removed, falls_on}
use Rattle.lru_trace.proofs.Marks.{falls_few, marks_same}
use Rattle.std.specs.Prelude.{if◌then◌else◌}

pub at_is : (a b : ℕ) → is_at (nat_cmp a) b ≡ nat_eq a b
at_is a b = elim (cases_order a b) [
  | inl same ↦ rw (le-ltb a b (omega (arith, same)), eq-eqb a b same) refl
  | inr (inl less) ↦ rw (lt-ltb a b less, ne_eqb a b (λ e. omega (arith, e, less))) refl
  | inr (inr more) ↦ rw (le-ltb a b (omega (arith, more)), ne_eqb a b (λ e. omega (arith, e, more))) refl
]

pub none_is : {A : Type 0} (o : Option A) → is_some o ≡ false → o ≡ None
none_is None e = refl
none_is (Some x) e = absurd cc

pub alone : (own : Option ℕ) (x y : ℕ) → owns own x ≡ true → owns own y ≡ true → x ≡ y
alone None x y e d = absurd cc
alone (Some o) x y e d = sym (eqb-true o x e) ∙ eqb-true o y d

-- A place is moved to the front, and is no longer free.
pub record Moves (own : Option ℕ) (recent : Recent) (times : List ℕ) (old new : List (ℕ × ℕ)) (id : ℕ) : Type 0 where
  pub inside : is_in nat_eq id recent.recency ≡ true
  pub clear : free_at new (time_in times id) ≡ None
  pub back : (time j : ℕ) → free_at new time ≡ Some j → (is_in nat_eq j recent.recency ≡ true) × (time_in times j ≡ time)
  pub marks : map (mark (is_free new times)) (remove_key (nat_eq id) recent.recency)
      ≡ vacated (owns own) (map (mark (is_free old times)) recent.recency)
  pub left : IfSome own (λ i. (i ≡ id → ⊥) → is_free new times i ≡ true)

module _ {recent : Recent} {times : List ℕ} {old : List (ℕ × ℕ)} {clock : ℕ}
    (are : ArePlaces recent times old clock) where
  abbrev time : ℕ → ℕ
  time = time_in times

  abbrev ids : List ℕ
  ids = recent.recency

  abbrev old_free : ℕ → Bool
  old_free = is_free old times

  abbrev Stored : Option ℕ → Type 0
  Stored own = IfSome own (λ i. is_in nat_eq i (keys_in (map (mark old_free) ids)) ≡ true)

  pub stored_in : (own : Option ℕ) → Stored own → (x : ℕ) → owns own x ≡ true
      → (is_in nat_eq x ids ≡ true) × (old_free x ≡ false)
  stored_in None has x mine = absurd cc
  stored_in (Some o) has x mine =
      subst (λ y. (is_in nat_eq y ids ≡ true) × (old_free y ≡ false)) (eqb-true o x mine) (in_marks old_free o ids has)

  stay_moves : (id : ℕ) → Stored (Some id)
      → ((t : ℕ) → is_some (free_at old t) ≡ true → t ≤ time id) → Moves (Some id) recent times old old id
  stay_moves id has newest =
      let at = in_marks old_free id ids has in
      record {
        inside = at.0;
        clear = none_is (free_at old (time id)) at.1;
        back = are.found;
        marks = marks_moved time (owns (Some id)) old_free old_free (alone (Some id)) id clock ids are.falls at.0
            (or_right (old_free id) (owns (Some id) id) (eq-eqb id id refl))
            (λ x e mine. (stored_in (Some id) has x mine).1)
            (λ x e special. go (old_free x) x refl special)
            (λ x e other. sym (ap (λ b. old_free x || b) (differ id x other) ∙ or_false (old_free x)));
        left = λ other. absurd (other refl);
      }
    where
      go : (b : Bool) (x : ℕ) → old_free x ≡ b → (b || nat_eq id x) ≡ true → time x ≤ time id
      go true x free e = newest (time x) free
      go false x free e = omega (arith, ap time (eqb-true id x e))

  module _ (own : Option ℕ) (has : Stored own) (t id : ℕ) (there_is : free_at old t ≡ Some id)
      (newest : (s : ℕ) → is_some (free_at old s) ≡ true → s ≤ t) (older : IfSome own (λ o. time o < t))
      (new : List (ℕ × ℕ)) (after : (s : ℕ) → free_at new s ≡ after_taken own times t old s) where
    at : (is_in nat_eq id ids ≡ true) × (time id ≡ t)
    at = are.found t id there_is

    after_same : (own : Option ℕ) (s : ℕ) → s ≡ t → after_taken own times t old s ≡ None
    after_same None s same = rw (at_is t s, eq-eqb t s (sym same)) refl
    after_same (Some o) s same = rw (at_is t s, eq-eqb t s (sym same)) refl

    taken_clear : free_at new (time id) ≡ None
    taken_clear = after (time id) ∙ after_same own (time id) at.1

    back_from : (own : Option ℕ) → Stored own → (s j : ℕ) → after_taken own times t old s ≡ Some j
        → (is_in nat_eq j ids ≡ true) × (time j ≡ s)
    back_from None has s j e = go (is_at (nat_cmp t) s) e
      where
        go : (b : Bool) → cond b None (free_at old s) ≡ Some j → (is_in nat_eq j ids ≡ true) × (time j ≡ s)
        go true e = absurd cc
        go false e = are.found s j e
    back_from (Some o) has s j e = go (is_at (nat_cmp t) s) (is_at (nat_cmp (time o)) s) (sym (at_is (time o) s)) e
      where
        go : (b d : Bool) → nat_eq (time o) s ≡ d → cond b None (cond d (Some o) (free_at old s)) ≡ Some j
            → (is_in nat_eq j ids ≡ true) × (time j ≡ s)
        go true d is e = absurd cc
        go false true is e =
            let same = same_Some o j e in (
              subst (λ y. is_in nat_eq y ids ≡ true) same (in_marks old_free o ids has).0,
              ap time (sym same) ∙ eqb-true (time o) s is,
            )
        go false false is e = are.found s j e

    new_marks : (own : Option ℕ) → Stored own → IfSome own (λ o. time o < t) → (x : ℕ) → is_in nat_eq x ids ≡ true
        → (id ≡ x → ⊥) → is_some (after_taken own times t old (time x)) ≡ (old_free x || owns own x)
    new_marks own has older x e other = go own has older
        (at_is t (time x) ∙ differ t (time x) (λ same. other (same_time time clock ids are.falls id x at.0 e (at.1 ∙ same))))
      where
        test : (o : ℕ) → Stored (Some o) → (b : Bool) → nat_eq o x ≡ b
            → is_some (cond (is_at (nat_cmp (time o)) (time x)) (Some o) (free_at old (time x))) ≡ (old_free x || b)
        test o has true mine =
            rw (at_is (time o) (time x), eq-eqb (time o) (time x) (ap time (eqb-true o x mine)))
            (sym (or_right (old_free x) true refl))
        test o has false mine =
            rw (
              at_is (time o) (time x),
              differ (time o) (time x) (λ same. both_ways _ mine (eq-eqb o x
                  (same_time time clock ids are.falls o x (in_marks old_free o ids has).0 e same))),
            ) (sym (or_false (old_free x)))

        go : (own : Option ℕ) → Stored own → IfSome own (λ o. time o < t) → is_at (nat_cmp t) (time x) ≡ false
            → is_some (after_taken own times t old (time x)) ≡ (old_free x || owns own x)
        go None has older apart = rw apart (sym (or_false (old_free x)))
        go (Some o) has older apart = rw apart (test o has (nat_eq o x) refl)

    newest_is : (own : Option ℕ) → IfSome own (λ o. time o < t) → (b d : Bool) (x : ℕ) → old_free x ≡ b
        → owns own x ≡ d → (b || d) ≡ true → time x ≤ time id
    newest_is own older true d x free mine e = omega (arith, newest (time x) free, at.1)
    newest_is None older false true x free mine e = absurd cc
    newest_is (Some o) older false true x free mine e = omega (arith, older, at.1, ap time (eqb-true o x mine))
    newest_is own older false false x free mine e = absurd cc

    left_of : (own : Option ℕ) → Stored own → IfSome own (λ o. time o < t)
        → IfSome own (λ i. (i ≡ id → ⊥) → is_some (after_taken own times t old (time i)) ≡ true)
    left_of None has older = tt
    left_of (Some o) has older = λ other. rw (
      at_is t (time o),
      differ t (time o) (λ same. omega (arith, older, same)),
      at_is (time o) (time o),
      eq-eqb (time o) (time o) refl,
    ) refl

    pub take_moves : Moves own recent times old new id
    take_moves = record {
      inside = at.0;
      clear = taken_clear;
      back = λ s j e. back_from own has s j (sym (after s) ∙ e);
      marks = marks_moved time (owns own) old_free (is_free new times) (alone own) id clock ids are.falls at.0
          (ap (λ b. b || owns own id) (ap is_some (ap (free_at old) at.1 ∙ there_is)))
          (λ x e mine. (stored_in own has x mine).1)
          (λ x e special. newest_is own older (old_free x) (owns own x) x refl refl special)
          (λ x e other. ap is_some (after (time x)) ∙ new_marks own has older x e other);
      left = from own (left_of own has older) after;
    }
      where
        from : (o : Option ℕ) → IfSome o (λ i. (i ≡ id → ⊥) → is_some (after_taken o times t old (time i)) ≡ true)
            → ((s : ℕ) → free_at new s ≡ after_taken o times t old s)
            → IfSome o (λ i. (i ≡ id → ⊥) → is_free new times i ≡ true)
        from None h after = tt
        from (Some i) h after = λ other. ap is_some (after (time i)) ∙ h other

  pub chosen_moves : (own : Option ℕ) → Stored own → (new : List (ℕ × ℕ)) (chosen : Option ℕ) (id : ℕ) → chosen ≡ Some id
      → Chosen own times old new chosen → Moves own recent times old new id
  chosen_moves own has new chosen id is (stays e same newest) =
      let named : own ≡ Some id = sym e ∙ is in
      subst (λ o. Moves o recent times old new id) (sym named) (subst (λ n. Moves (Some id) recent times old n id) (sym same)
      (stay_moves id (subst Stored named has) (λ t free. subst (λ o. IsSomeAnd o (λ i. t ≤ time i)) named (newest t free))))
  chosen_moves own has new chosen id is (takes t j e was newest older after) =
      let named : j ≡ id = same_Some j id (sym e ∙ is) in
      subst (Moves own recent times old new) named (take_moves own has t j was newest older new after)

  pub no_move : (own : Option ℕ) (new : List (ℕ × ℕ)) (chosen : Option ℕ) → chosen ≡ None → Chosen own times old new chosen
      → (own ≡ None) × (new ≡ old) × ((x : ℕ) → old_free x ≡ false)
  no_move own new chosen none (stays e same newest) =
      let free = sym e ∙ none in (
        free,
        same,
        λ x. never (λ h. subst (λ o. IsSomeAnd o (λ i. time x ≤ time i)) free (newest (time x) h)),
      )
  no_move own new chosen none (takes t j e was newest older after) = absurd (none-some j (sym none ∙ e))

  pub stored_within : (own : Option ℕ) → Stored own → IfSome own (λ i. i < length times)
  stored_within None has = tt
  stored_within (Some i) has = omega (arith, are.known i (in_marks old_free i ids has).0, are.aligned)

  pub same_places : (new : Recent) → new.recency ≡ ids → new.keys ≡ recent.keys → new.weights ≡ recent.weights
      → ArePlaces new times old clock
  same_places new same keys weights = record {
    aligned = are.aligned ∙ sym keys;
    plain = weights ∙ are.plain;
    falls = subst (Falls time clock) (sym same) are.falls;
    known = λ id e. omega (arith, are.known id (ap (is_in nat_eq id) (sym same) ∙ e), keys);
    found = λ t id e. (ap (is_in nat_eq id) same ∙ (are.found t id e).0, (are.found t id e).1);
  }

  pub few_ids : length ids ≤ clock
  few_ids = falls_few time clock ids are.falls

  -- the place `id` moves to the front
  module _ (id : ℕ) (new : List (ℕ × ℕ)) (next : Recent) (later : List ℕ)
      (back : (t j : ℕ) → free_at new t ≡ Some j → (is_in nat_eq j ids ≡ true) × (time j ≡ t))
      (apart : (t j : ℕ) → free_at new t ≡ Some j → id ≡ j → ⊥)
      (order : next.recency ≡ id ∷ remove_key (nat_eq id) ids) (weights : next.weights ≡ recent.weights)
      (long : length later ≡ next.keys) (small : id < next.keys) (more : recent.keys ≤ next.keys)
      (now : time_in later id ≡ clock)
      (others : (x : ℕ) → is_in nat_eq x (remove_key (nat_eq id) ids) ≡ true → time_in later x ≡ time x) where
    abbrev rest : List ℕ
    rest = remove_key (nat_eq id) ids

    not_now : free_at new clock ≡ None
    not_now = go (free_at new clock) refl
      where
        go : (o : Option ℕ) → free_at new clock ≡ o → o ≡ None
        go None e = refl
        go (Some j) e = absurd (omega (arith, below time clock ids are.falls j (back clock j e).0, (back clock j e).1))

    known_in : (j : ℕ) (b : Bool) → nat_eq j id ≡ b → (b || is_in nat_eq j rest) ≡ true → j < next.keys
    known_in j true e h = omega (arith, small, eqb-true j id e)
    known_in j false e h = omega (arith, more, are.known j (in_less nat_eq (nat_eq id) j ids h))

    pub moved : ArePlaces next later new (clock + 1)
    moved = record {
      aligned = long;
      plain = weights ∙ are.plain;
      falls = subst (Falls (time_in later) (clock + 1)) (sym order) (
        omega (arith, now),
        subst (λ b. Falls (time_in later) b rest) (sym now)
            (falls_on time (time_in later) clock rest others (falls_removed time (nat_eq id) clock ids are.falls)),
      );
      known = λ j e. known_in j (nat_eq j id) refl (ap (is_in nat_eq j) (sym order) ∙ e);
      found = λ t j e.
          let inside = kept_in id j ids (back t j e).0 (apart t j e) in (
            ap (is_in nat_eq j) order ∙ there j id rest inside,
            others j inside ∙ (back t j e).1,
          );
    }

    pub moved_marks : map (mark (is_free new later)) next.recency ≡ Some id ∷ map (mark (is_free new times)) rest
    moved_marks = ap (map (mark (is_free new later))) order ∙ (λ i. first i ∷ same i)
      where
        first : mark (is_free new later) id ≡ Some id
        first = ap (λ o. cond (is_some o) None (Some id)) (ap (free_at new) now ∙ not_now)

        same : map (mark (is_free new later)) rest ≡ map (mark (is_free new times)) rest
        same = marks_same (is_free new times) (is_free new later) rest (λ x e. ap (λ t. is_some (free_at new t)) (others x e))

  -- the place of a moved key, and its old place, do not contain the key
  module _ (own : Option ℕ) (new : List (ℕ × ℕ)) (id : ℕ) (moves : Moves own recent times old new id) where
    pub moved_fresh : is_in nat_eq id (keys_in (vacated (owns own) (map (mark old_free) ids))) ≡ false
    moved_fresh = ap (λ ps. is_in nat_eq id (keys_in ps)) (sym moves.marks) ∙ never (λ e.
        both_ways _ (removed_out time id clock ids are.falls)
        (in_marks (is_free new times) id (remove_key (nat_eq id) ids) e).0)

    pub moved_gone : IfSome own (λ i. is_in nat_eq i (keys_in (vacated (owns own) (map (mark old_free) ids))) ≡ false)
    moved_gone = go own moves.marks moves.left
      where
        go : (own : Option ℕ) → map (mark (is_free new times)) (remove_key (nat_eq id) ids)
            ≡ vacated (owns own) (map (mark old_free) ids)
            → IfSome own (λ i. (i ≡ id → ⊥) → is_free new times i ≡ true)
            → IfSome own (λ i. is_in nat_eq i (keys_in (vacated (owns own) (map (mark old_free) ids))) ≡ false)
        go None marks left = tt
        go (Some i) marks left = ap (λ ps. is_in nat_eq i (keys_in ps)) (sym marks) ∙ never (λ e.
            let at = in_marks (is_free new times) i (remove_key (nat_eq id) ids) e in
            both_ways _ at.1 (left (λ same. both_ways _ (removed_out time id clock ids are.falls)
            (ap (λ j. is_in nat_eq j (remove_key (nat_eq id) ids)) (sym same) ∙ at.0))))

    pub moved_apart : (t j : ℕ) → free_at new t ≡ Some j → id ≡ j → ⊥
    moved_apart t j e same = none-some j (sym moves.clear ∙ ap (free_at new) (ap time same ∙ (moves.back t j e).1) ∙ e)

  -- a place becomes free
  module _ (id : ℕ) (has : is_in nat_eq id (keys_in (map (mark old_free) ids)) ≡ true) (new : List (ℕ × ℕ))
      (after : (t : ℕ) → free_at new t ≡ (if is_at (nat_cmp (time id)) t then Some id else free_at old t)) where
    inside : (is_in nat_eq id ids ≡ true) × (old_free id ≡ false)
    inside = in_marks old_free id ids has

    freed_found : (t j : ℕ) → free_at new t ≡ Some j → (is_in nat_eq j ids ≡ true) × (time j ≡ t)
    freed_found t j e = go (is_at (nat_cmp (time id)) t) (sym (at_is (time id) t)) (sym (after t) ∙ e)
      where
        go : (b : Bool) → nat_eq (time id) t ≡ b → cond b (Some id) (free_at old t) ≡ Some j
            → (is_in nat_eq j ids ≡ true) × (time j ≡ t)
        go true is e =
            let same = same_Some id j e in
            (subst (λ y. is_in nat_eq y ids ≡ true) same inside.0, ap time (sym same) ∙ eqb-true (time id) t is)
        go false is e = are.found t j e

    pub freed_are : ArePlaces recent times new clock
    freed_are = record {
      aligned = are.aligned;
      plain = are.plain;
      falls = are.falls;
      known = are.known;
      found = freed_found;
    }

    freed_mark : (x : ℕ) → is_in nat_eq x ids ≡ true → is_free new times x ≡ (old_free x || nat_eq id x)
    freed_mark x e = ap is_some (after (time x)) ∙ go (nat_eq id x) refl
      where
        go : (b : Bool) → nat_eq id x ≡ b
            → is_some (cond (is_at (nat_cmp (time id)) (time x)) (Some id) (free_at old (time x))) ≡ (old_free x || b)
        go true mine = rw (at_is (time id) (time x), eq-eqb (time id) (time x) (ap time (eqb-true id x mine)))
            (sym (or_right (old_free x) true refl))
        go false mine = rw (
          at_is (time id) (time x),
          differ (time id) (time x) (λ same. both_ways _ mine (eq-eqb id x
              (same_time time clock ids are.falls id x inside.0 e same))),
        ) (sym (or_false (old_free x)))

    pub freed_marks : map (mark (is_free new times)) ids ≡ freed (nat_eq id) (map (mark old_free) ids)
    freed_marks = marks_freed time (nat_eq id) old_free (is_free new times) (alone (Some id)) clock ids are.falls
        (λ x e mine. ap old_free (sym (eqb-true id x mine)) ∙ inside.1) freed_mark

    pub freed_gone : is_in nat_eq id (keys_in (map (mark (is_free new times)) ids)) ≡ false
    freed_gone = never (λ e. both_ways _ (in_marks (is_free new times) id ids e).1
        (freed_mark id inside.0 ∙ or_right (old_free id) (nat_eq id id) (eq-eqb id id refl)))
