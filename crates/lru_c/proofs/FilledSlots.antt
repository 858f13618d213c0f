use Rattle.std.proofs.Common.{◌≡◌, ℕ, zero, suc, ◌+◌, ◌<◌, ◌≤◌, List, [], ◌∷◌, ◌++◌, length, refl, sym, ap, ◌∙◌}
use Rattle.std.proofs.Common.{arith, subst}
use Rattle.std.proofs.Common.{length-set, append-nil}
use Rattle.std.proofs.lemmas.List.{take_all, drop_all}
use Rattle.std.specs.Prelude.{take, drop, slice_set}
use Rattle.lru_c.specs.Answers.{filled, fitting}
use Rattle.lru_c.specs.declared.answers.Entry.{Entry}

-- The first n pairs were copied. If the other pairs fill the other slots, all slots are `filled`.
pub record FillsSoFar (pairs : List (ℕ × ℕ)) (slots : List Entry) (n : ℕ) (rest : List (ℕ × ℕ))
    (now : List Entry) : Type 0 where
  pub within : n ≤ length now
  pub filled_so_far : take n now ++ filled rest (drop n now) ≡ filled pairs slots
  pub counted : n + fitting rest (drop n now) ≡ fitting pairs slots

abbrev entry : ℕ × ℕ → Entry
entry pair = record { key = pair.0; value = pair.1 }

fills_slot : (n : ℕ) (now : List Entry) (pair : ℕ × ℕ) (rest : List (ℕ × ℕ)) → n < length now
    → take (suc n) (slice_set now n (entry pair)) ++ filled rest (drop (suc n) (slice_set now n (entry pair)))
    ≡ take n now ++ filled (pair ∷ rest) (drop n now)
fills_slot n [] pair rest small = absurd (omega arith)
fills_slot zero (slot ∷ now) pair rest small = refl
fills_slot (suc n) (slot ∷ now) pair rest small = ap (λ slots. slot ∷ slots) (fills_slot n now pair rest (omega arith))

counts_slot : (n : ℕ) (now : List Entry) (pair : ℕ × ℕ) (rest : List (ℕ × ℕ)) → n < length now
    → fitting (pair ∷ rest) (drop n now) ≡ suc (fitting rest (drop (suc n) (slice_set now n (entry pair))))
counts_slot n [] pair rest small = absurd (omega arith)
counts_slot zero (slot ∷ now) pair rest small = refl
counts_slot (suc n) (slot ∷ now) pair rest small = counts_slot n now pair rest (omega arith)

pub next_slot : (pairs : List (ℕ × ℕ)) (slots : List Entry) (n : ℕ) (pair : ℕ × ℕ) (rest : List (ℕ × ℕ))
    (now : List Entry)
    → FillsSoFar pairs slots n (pair ∷ rest) now → n < length now
    → FillsSoFar pairs slots (n + 1) rest (slice_set now n (entry pair))
next_slot pairs slots n pair rest now so_far small =
    let more : suc n ≡ n + 1 = omega arith in
    subst (λ m. FillsSoFar pairs slots m rest (slice_set now n (entry pair))) more (record {
      within = omega (arith, small, length-set now n (entry pair));
      filled_so_far = fills_slot n now pair rest small ∙ so_far.filled_so_far;
      counted = omega (arith, counts_slot n now pair rest small, so_far.counted);
    })

no_slots : (rest : List (ℕ × ℕ)) → (filled rest [] ≡ []) × (fitting rest [] ≡ 0)
no_slots [] = (refl, refl)
no_slots (pair ∷ rest) = (refl, refl)

pub all_slots : (pairs : List (ℕ × ℕ)) (slots : List Entry) (n : ℕ) (rest : List (ℕ × ℕ)) (now : List Entry)
    → FillsSoFar pairs slots n rest now → length now ≤ n → (now ≡ filled pairs slots) × (n ≡ fitting pairs slots)
all_slots pairs slots n rest now so_far full =
    let none : drop n now ≡ [] = drop_all n now full in
    let whole : take n now ≡ now = take_all n now full in (
      sym (append-nil now) ∙ (λ i. sym whole i ++ sym (ap (filled rest) none ∙ (no_slots rest).0) i)
          ∙ so_far.filled_so_far,
      omega (arith, so_far.counted, ap (fitting rest) none, (no_slots rest).1),
    )
