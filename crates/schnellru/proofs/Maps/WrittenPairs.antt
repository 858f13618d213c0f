use Rattle.std.proofs.Common.{◌≡◌, ℕ, zero, suc, ◌+◌, Some, None, List, [], ◌∷◌, ◌++◌, length, refl, ap, sym, ◌∙◌}
use Rattle.std.proofs.Common.{subst}
use Rattle.std.proofs.lemmas.List.{append_assoc, length_push}
use Rattle.std.proofs.lemmas.Option.{none-some, same_Some}
use Rattle.std.specs.Prelude.{slice_get}
use Rattle.std.specs.Borrow.{Bor, MutBor}
use Rattle.std.specs.Fn.{Mut}
use Rattle.lru_model.specs.Lists.{set_value_at}
use Rattle.lru_model.specs.State.{State}
use Rattle.lru_model.specs.Written.{Writes, WritesEach}

get_after : {X : Type 0} (front rest : List X) → slice_get (front ++ rest) (length front) ≡ slice_get rest 0
get_after [] rest = refl
get_after (x ∷ front) rest = get_after front rest

set_after : {K V : Type 0} (front : List (K × V)) (pair : K × V) (rest : List (K × V)) (w : V)
    → set_value_at (front ++ pair ∷ rest) (length front) w ≡ (front ++ (pair.0, w) ∷ []) ++ rest
set_after [] pair rest w = refl
set_after (x ∷ front) pair rest w = ap (λ l. x ∷ l) (set_after front pair rest w)

module _ {K V F : Type 0} (closure : Mut F (Bor K × (MutBor V × Unit {0})) (Unit {0} × (MutBor V × Unit {0})))
    (old : List (K × V)) (first : F) where
  -- the closure wrote to the first `at` pairs, and became f
  pub record IsWrittenTo (at : ℕ) (pairs : List (K × V)) (f : F) : Type 0 where
    pub front : List (K × V)
    pub rest : List (K × V)
    pub whole : pairs ≡ front ++ rest
    pub many : length front ≡ at
    pub ahead : (new : List (K × V)) (g : F) → WritesEach closure f rest new g
        → WritesEach closure first old (front ++ new) g

  pub written_none : IsWrittenTo 0 old first
  written_none = record {
    front = [];
    rest = old;
    whole = refl;
    many = refl;
    ahead = λ new g written. written;
  }

  pub written_more : (at : ℕ) (pairs : List (K × V)) (f : F) → IsWrittenTo at pairs f → (pair : K × V) (w : V) (g : F)
      → slice_get pairs at ≡ Some pair → Writes closure f pair w g
      → IsWrittenTo (at + 1) (set_value_at pairs at w) g
  written_more at pairs f i pair w g there writes = go i.rest i.whole i.ahead
    where
      go : (rest : List (K × V)) → pairs ≡ i.front ++ rest
          → ((new : List (K × V)) (h : F) → WritesEach closure f rest new h
          → WritesEach closure first old (i.front ++ new) h)
          → IsWrittenTo (at + 1) (set_value_at pairs at w) g
      go [] whole ahead = absurd (none-some pair
          (sym (get_after i.front []) ∙ ap (slice_get (i.front ++ [])) i.many
          ∙ ap (λ l. slice_get l at) (sym whole) ∙ there))
      go (first_left ∷ rest) whole ahead =
          let same = same_Some first_left pair (sym (get_after i.front (first_left ∷ rest))
          ∙ ap (slice_get (i.front ++ first_left ∷ rest)) i.many ∙ ap (λ l. slice_get l at) (sym whole) ∙ there) in
          record {
            front = i.front ++ (first_left.0, w) ∷ [];
            rest = rest;
            whole = ap (λ l. set_value_at l at w) whole
                ∙ ap (λ n. set_value_at (i.front ++ first_left ∷ rest) n w) (sym i.many)
                ∙ set_after i.front first_left rest w;
            many = length_push i.front (first_left.0, w) ∙ ap (λ n. n + 1) i.many;
            ahead = λ new h written. subst (λ l. WritesEach closure first old l h)
                (sym (append_assoc i.front ((first_left.0, w) ∷ []) new))
                (ahead ((first_left.0, w) ∷ new) h
                (w, g, new, subst (λ p. Writes closure f p w g) (sym same) writes, written, refl));
          }

  pub written_all : (at : ℕ) (pairs : List (K × V)) (f : F) → IsWrittenTo at pairs f → slice_get pairs at ≡ None
      → WritesEach closure first old pairs f
  written_all at pairs f i none = go i.rest i.whole i.ahead
    where
      go : (rest : List (K × V)) → pairs ≡ i.front ++ rest
          → ((new : List (K × V)) (h : F) → WritesEach closure f rest new h
          → WritesEach closure first old (i.front ++ new) h)
          → WritesEach closure first old pairs f
      go [] whole ahead = subst (λ l. WritesEach closure first old l f) (sym whole) (ahead [] f (refl, refl))
      go (left ∷ rest) whole ahead = absurd (none-some left
          (sym none ∙ ap (λ l. slice_get l at) whole ∙ ap (slice_get (i.front ++ left ∷ rest)) (sym i.many)
          ∙ get_after i.front (left ∷ rest)))

pub length-set : {K V : Type 0} (pairs : List (K × V)) (at : ℕ) (w : V) → length (set_value_at pairs at w) ≡ length
    pairs
length-set [] at w = refl
length-set (pair ∷ pairs) zero w = refl
length-set (pair ∷ pairs) (suc at) w = ap suc (length-set pairs at w)

pub with_others : {K V S H : Type 0} (st old : State K V S H) (pairs : List (K × V)) → st ≡ record old
    { pairs = st.pairs }
    → record st { pairs = pairs } ≡ record old { pairs = pairs }
with_others st old pairs same = λ j. record (same j) { pairs = pairs }
