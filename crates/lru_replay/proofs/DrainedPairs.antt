use Rattle.std.proofs.Common.{◌≡◌, ℕ, Bool, not, List, [], ◌∷◌, ◌++◌, Option, Some, None}
use Rattle.std.proofs.Common.{option_to_list, refl, sym, ap, ◌∙◌, append_assoc, codes}
use Rattle.std.specs.Prelude.{◌||◌, is_some, if◌then◌else◌}
use Rattle.std.proofs.lemmas.List.{append-nil}
use Rattle.lru_model.specs.Lists.{is_empty}
use Rattle.lru_replay.specs.Output.{pair_text, rest_text, pairs_text, taken_text}
use Rattle.lru_replay.proofs.WrittenTexts.{rest_text-append}

-- the pairs with one space between them, or nothing if there are none
abbrev pub spaced : List (ℕ × ℕ) → List ℕ
spaced [] = []
spaced (p ∷ pairs) = pair_text p ++ rest_text pairs

pub spaced-more : (pairs : List (ℕ × ℕ)) (next : Option (ℕ × ℕ)) → spaced (pairs ++ option_to_list next) ≡ spaced pairs
    ++ taken_text (not (is_empty pairs)) next
spaced-more [] None = refl
spaced-more [] (Some p) = append-nil (pair_text p)
spaced-more (q ∷ pairs) None = ap (λ l. pair_text q ++ rest_text l) (append-nil pairs)
    ∙ sym (append-nil (pair_text q ++ rest_text pairs))
spaced-more (q ∷ pairs) (Some p) =
    ap (λ l. pair_text q ++ l) (rest_text-append pairs (p ∷ [])
    ∙ ap (λ l. rest_text pairs ++ l) (append-nil (32 ∷ pair_text p)))
    ∙ sym (append_assoc (pair_text q) (rest_text pairs) (32 ∷ pair_text p))

pub some-more : (any also : Bool) (pairs : List (ℕ × ℕ)) (next : Option (ℕ × ℕ)) → any ≡ not (is_empty pairs) → also
    ≡ is_some next → (any || also) ≡ not (is_empty (pairs ++ option_to_list next))
some-more any also [] None e f = rw (e, f) refl
some-more any also [] (Some p) e f = rw (e, f) refl
some-more any also (q ∷ pairs) None e f = rw e refl
some-more any also (q ∷ pairs) (Some p) e f = rw e refl

pub spaced-end : (pairs : List (ℕ × ℕ)) (any : Bool) → any ≡ not (is_empty pairs) → spaced pairs
    ++ (if any then [] else codes "-") ≡ pairs_text pairs
spaced-end [] any e = rw e refl
spaced-end (p ∷ pairs) any e = rw e (append-nil (pair_text p ++ rest_text pairs))
