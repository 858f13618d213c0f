-- A callback notes the first pair of a key that differs from the inserted key.
use Rattle.std.proofs.Common.{◌≡◌, ℕ, Bool, true, false, cond, List, [], ◌∷◌, Option, None, Some, MutBor, refl, ap, ◌∙◌}
use Rattle.std.proofs.Common.{nat_eq, subst}
use Rattle.std.specs.List.{FoldsTo}
use Rattle.lru_c.specs.Answers.{noted_pair, noting_other, first_other}
use Rattle.lru_c.specs.declared.answers.Entry.{Entry}

pub record Held : Type 0 where
  pub key : ℕ
  pub noted : MutBor Bool
  pub place : MutBor Entry

abbrev pub pair_of : Held → Option (ℕ × ℕ)
pair_of h = noted_pair h.noted.now h.place.now

-- The callback holds the same places as before, and `now` was noted. If `now` is `None`, the place is unchanged.
pub record Notes (old new : Held) (now : Option (ℕ × ℕ)) : Type 0 where
  pub key : new.key ≡ old.key
  pub noted : new.noted.ghost_name ≡ old.noted.ghost_name
  pub place : new.place.ghost_name ≡ old.place.ghost_name
  pub pair : pair_of new ≡ now
  pub untouched : new.noted.now ≡ false → (old.noted.now ≡ false) × (new.place.now ≡ old.place.now)

noting_all : ℕ → Option (ℕ × ℕ) → List (ℕ × ℕ) → Option (ℕ × ℕ)
noting_all key o [] = o
noting_all key o (pair ∷ pairs) = noting_all key (noting_other key o pair) pairs

keeps : (key : ℕ) (p : ℕ × ℕ) (pairs : List (ℕ × ℕ)) → noting_all key (Some p) pairs ≡ Some p
unfolding noting_all
keeps key p [] = refl
keeps key p (pair ∷ pairs) = keeps key p pairs

notes_first : (key : ℕ) (pairs : List (ℕ × ℕ)) → noting_all key None pairs ≡ first_other key pairs
unfolding noting_all
notes_first key [] = refl
notes_first key (pair ∷ pairs) = go (nat_eq key pair.0) (notes_first key pairs)
  where
    go : (own : Bool) → noting_all key None pairs ≡ first_other key pairs
        → noting_all key (cond own None (Some pair)) pairs ≡ cond own (first_other key pairs) (Some pair)
    go true others = others
    go false others = keeps key pair pairs

module _ {F : Type 0} (held : F → Held) (Calls : F → ℕ × ℕ → F → Type 0)
    (one : (f : F) (pair : ℕ × ℕ) (g : F) → Calls f pair g
    → Notes (held f) (held g) (noting_other (held f).key (pair_of (held f)) pair)) where
  all_notes : (pairs : List (ℕ × ℕ)) (f g : F) → FoldsTo Calls f pairs g
      → Notes (held f) (held g) (noting_all (held f).key (pair_of (held f)) pairs)
  unfolding noting_all
  all_notes [] f g same = subst (λ h. Notes (held f) (held h) (pair_of (held f))) same (record {
    key = refl;
    noted = refl;
    place = refl;
    pair = refl;
    untouched = λ none. (none, refl);
  })
  all_notes (pair ∷ pairs) f g (h, called, rest) =
      let first = one f pair h called in
      let others = all_notes pairs h g rest in record {
        key = others.key ∙ first.key;
        noted = others.noted ∙ first.noted;
        place = others.place ∙ first.place;
        pair = others.pair ∙ ap (λ k. noting_all k (pair_of (held h)) pairs) first.key
            ∙ ap (λ o. noting_all (held f).key o pairs) first.pair;
        untouched = λ none.
            let later = others.untouched none in let before = first.untouched later.0 in
            (before.0, later.1 ∙ before.1);
      }

  pub noted_first : (pairs : List (ℕ × ℕ)) (f g : F) → FoldsTo Calls f pairs g → pair_of (held f) ≡ None
      → Notes (held f) (held g) (first_other (held f).key pairs)
  noted_first pairs f g folds none =
      let all = all_notes pairs f g folds in record {
        key = all.key;
        noted = all.noted;
        place = all.place;
        pair = all.pair ∙ ap (λ o. noting_all (held f).key o pairs) none ∙ notes_first (held f).key pairs;
        untouched = all.untouched;
      }
