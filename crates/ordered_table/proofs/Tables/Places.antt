-- The pairs of a linked table by their places in the order, counted from the newest on.
use Rattle.std.proofs.Common.{◌≡◌, ◌≢◌, ◌≤◌, ℕ, zero, suc, Bool, true, false, cond, List, [], ◌∷◌, ◌++◌, length, Some}
use Rattle.std.proofs.Common.{None, refl}
use Rattle.std.proofs.Common.{sym, ap, ◌∙◌, subst, arith, ne_eqb, eq-eqb}
use Rattle.std.specs.Prelude.{Contains, AllPairs, option_to_list, slice_get}
use Rattle.std.specs.Cmp.{IsEquivalence}
use Rattle.std.specs.List.{IsDistinct}
use Rattle.std.specs.Map.{set_value}
use Rattle.std.proofs.lemmas.Option.{none-some, same_Some}
use Rattle.group_table.specs.Bucket.{Slot, entry_at, bucket_at}
use Rattle.group_table.proofs.SearchLemmas.{entry_by_full}
use Rattle.lru_model.specs.Lists.{set_value_at, last_of, place_of}
use Rattle.lru_model.specs.Lists.{first as first_bucket, last as last_bucket}
use Rattle.ordered_table.specs.OrderedTable.{bucket_after, bucket_before}
use Rattle.ordered_table.specs.OrderedTable.{entries_in}
use Rattle.lru_model.proofs.PairLists.Members.{Contains-here, Contains-later}
use Rattle.ordered_table.proofs.Chains.Orders.{distinct_head, distinct_tail}
use Rattle.lru_model.proofs.PairLists.DistinctKeys.{AreDistinct, all_of}
use Rattle.ordered_table.proofs.Tables.BucketPairs.{AreFull}

pub got_in : {T : Type 0} (xs : List T) (i : ℕ) (x : T) → slice_get xs i ≡ Some x → Contains xs x
got_in [] i x e = absurd (none-some x e)
got_in (y ∷ ys) zero x e = (0, omega arith, same_Some y x e)
got_in (y ∷ ys) (suc i) x e = Contains-later y x ys (got_in ys i x e)

pub get_none : {X : Type 0} (xs : List X) (at : ℕ) → slice_get xs at ≡ None → length xs ≤ at
get_none [] at none = omega arith
get_none (x ∷ xs) zero none = absurd (none-some x (sym none))
get_none (x ∷ xs) (suc at) none = omega (arith, get_none xs at none)

pub same_position : (order : List ℕ) (i j b : ℕ) → AllPairs ◌≢◌ order → slice_get order i ≡ Some b
    → slice_get order j ≡ Some b → i ≡ j
same_position [] i j b d e f = absurd (none-some b e)
same_position (c ∷ cs) zero zero b d e f = refl
same_position (c ∷ cs) zero (suc j) b d e f =
    absurd (distinct_head c cs d (subst (Contains cs) (sym (same_Some c b e)) (got_in cs j b f)))
same_position (c ∷ cs) (suc i) zero b d e f =
    absurd (distinct_head c cs d (subst (Contains cs) (sym (same_Some c b f)) (got_in cs i b e)))
same_position (c ∷ cs) (suc i) (suc j) b d e f = ap suc (same_position cs i j b (distinct_tail c cs d) e f)

pub first_at : (order : List ℕ) → first_bucket order ≡ slice_get order 0
first_at [] = refl
first_at (x ∷ xs) = refl

pub last_at : (order : List ℕ) → last_bucket order ≡ last_of (length order) order
last_at [] = refl
last_at (x ∷ []) = refl
last_at (x ∷ y ∷ ys) = last_at (y ∷ ys)

pub after_at : (order : List ℕ) (i b : ℕ) → AllPairs ◌≢◌ order → slice_get order i ≡ Some b → bucket_after b order
    ≡ slice_get order (suc i)
after_at [] i b d e = absurd (none-some b e)
after_at (c ∷ cs) zero b d e = rw (eq-eqb c b (same_Some c b e)) (first_at cs)
after_at (c ∷ cs) (suc i) b d e =
    rw (ne_eqb c b (λ same. distinct_head c cs d (subst (Contains cs) (sym same) (got_in cs i b e))))
    (after_at cs i b (distinct_tail c cs d) e)

before_none : (b : ℕ) (order : List ℕ) → (Contains order b → ⊥) → bucket_before b order ≡ None
before_none b [] absent = refl
before_none b (c ∷ []) absent = refl
before_none b (c ∷ x ∷ xs) absent =
    rw (ne_eqb x b (λ same. absent (Contains-later c b (x ∷ xs) (subst (Contains (x ∷ xs)) same (Contains-here x xs)))))
    (before_none b (x ∷ xs) (λ w. absent (Contains-later c b (x ∷ xs) w)))

pub before_at : (order : List ℕ) (i b : ℕ) → AllPairs ◌≢◌ order → slice_get order i ≡ Some b → bucket_before b order
    ≡ last_of i order
before_at [] i b d e = absurd (none-some b e)
before_at (c ∷ []) zero b d e = refl
before_at (c ∷ []) (suc i) b d e = absurd (none-some b e)
before_at (c ∷ x ∷ xs) zero b d e =
    let absent : Contains (x ∷ xs) b → ⊥ = λ w. distinct_head c (x ∷ xs) d
    (subst (Contains (x ∷ xs)) (sym (same_Some c b e)) w) in
    rw (ne_eqb x b (λ same. absent (subst (Contains (x ∷ xs)) same (Contains-here x xs))))
    (before_none b (x ∷ xs) absent)
before_at (c ∷ x ∷ xs) (suc zero) b d e = rw (eq-eqb x b (same_Some x b e)) refl
before_at (c ∷ x ∷ xs) (suc (suc i)) b d e =
    rw (ne_eqb x b (λ same. distinct_head x xs (distinct_tail c (x ∷ xs) d)
    (subst (Contains xs) (sym same) (got_in xs i b e))))
    (before_at (x ∷ xs) (suc i) b (distinct_tail c (x ∷ xs) d) e)

pub pair_at : {T : Type 0} (slots : List (Slot T)) (order : List ℕ) (i b : ℕ) (x : T) → AreFull slots order
    → slice_get order i ≡ Some b → entry_at slots b ≡ Some x
    → slice_get (entries_in slots order) i ≡ Some x
pair_at slots [] i b x full e there = absurd (none-some b e)
pair_at slots (c ∷ cs) zero b x full e there =
    ap (λ o. slice_get (option_to_list o ++ entries_in slots cs) 0) (ap (entry_at slots) (same_Some c b e) ∙ there)
pair_at slots (c ∷ cs) (suc i) b x full e there =
    let first = entry_by_full (bucket_at slots c) full.0 in
    ap (λ o. slice_get (option_to_list o ++ entries_in slots cs) (suc i)) first.1
    ∙ pair_at slots cs i b x full.1 e there

pub place_holds : {K V : Type 0} (slots : List (Slot (K × V))) (names : K → Bool) (order : List ℕ) (b : ℕ)
    → AreFull slots order → place_of names (entries_in slots order) order ≡ Some b
    → (p : K × V) × (entry_at slots b ≡ Some p) × (names p.0 ≡ true)
place_holds slots names [] b full e = absurd (none-some b e)
place_holds slots names (c ∷ cs) b full e =
    let (p, is) = entry_by_full (bucket_at slots c) full.0 in
    go p is (names p.0) refl (place_holds slots names cs b full.1)
    (subst (λ o. place_of names (option_to_list o ++ entries_in slots cs) (c ∷ cs) ≡ Some b) is e)
  where
    go : (p : _) → entry_at slots c ≡ Some p → (y : Bool) → names p.0 ≡ y
        → (place_of names (entries_in slots cs) cs ≡ Some b → (q : _) × (entry_at slots b ≡ Some q) ×
        (names q.0 ≡ true))
        → cond y (Some c) (place_of names (entries_in slots cs) cs) ≡ Some b
        → (p : _) × (entry_at slots b ≡ Some p) × (names p.0 ≡ true)
    go p is true named rest h = (p, subst (λ d. entry_at slots d ≡ Some p) (same_Some c b h) is, named)
    go p is false named rest h = rest h

module _ {K V : Type 0} {eq : K → K → Bool} (laws : IsEquivalence eq) (p : K × V) (w : V) where
  pub at_set : (xs : List (K × V)) (i : ℕ) → AreDistinct eq xs → slice_get xs i ≡ Some p → set_value (eq p.0) xs w
      ≡ set_value_at xs i w
  unfolding IsDistinct
  at_set [] i d e = absurd (none-some p e)
  at_set (x ∷ xs) zero d e =
      ap (λ t. cond t ((x.0, w) ∷ xs) (x ∷ set_value (eq p.0) xs w)) (ap (λ q. eq p.0 q.0) (same_Some x p e)
      ∙ laws.refl p.0)
  at_set (x ∷ xs) (suc i) d e =
      ap (λ t. cond t ((x.0, w) ∷ xs) (x ∷ set_value (eq p.0) xs w))
      (laws.symm p.0 x.0 ∙ all_of (λ k. eq x.0 k ≡ false) xs p d.0 (got_in xs i p e))
      ∙ ap (λ l. x ∷ l) (at_set xs i d.1 e)
