use Rattle.std.proofs.Common.{◌≡◌, ◌≢◌, ℕ, zero, suc, ◌<◌, ◌≤◌, ◌+◌, ◌-◌, List, [], ◌∷◌, length, None, Some, slice_get}
use Rattle.std.proofs.Common.{◌∙◌, arith, refl, sym, ap, subst, ne_eqb}
use Rattle.std.specs.Prelude.{AllPairs, Contains}
use Rattle.std.proofs.lemmas.Option.{none-some, slice_get-get_or, slice_get_within}
use Rattle.lru_model.specs.Lists.{last_of}
use Rattle.ordered_table.specs.OrderedTable.{bucket_after, bucket_before, without_bucket}
use Rattle.ordered_table.proofs.Chains.Orders.{distinct_head, distinct_tail}
use Rattle.ordered_table.proofs.Tables.Places.{after_at, before_at, get_none, got_in}

module _ (order : List ℕ) (at b r : ℕ) (distinct : AllPairs ◌≢◌ order) (here : slice_get order at ≡ Some b) where
  pub next_place : 1 < length order - at → ((c : ℕ) → bucket_after b order ≡ Some c → r ≡ c)
      → Some r ≡ slice_get order (at + 1)
  next_place more is =
      let there = slice_get-get_or order (suc at) r (omega (arith, more)) in
      ap Some (is _ (after_at order at b distinct here ∙ there)) ∙ sym there ∙ ap (slice_get order) (omega arith)

  pub previous_place : 0 < at → ((c : ℕ) → bucket_before b order ≡ Some c → r ≡ c) → Some r ≡ last_of at order
  previous_place more is = go at here more
    where
      go : (n : ℕ) → slice_get order n ≡ Some b → 0 < n → Some r ≡ last_of n order
      go zero e h = absurd (omega (arith, h))
      go (suc n) e h = let there = slice_get-get_or order n r (omega (arith, slice_get_within order (suc n) b e)) in
          ap Some (is _ (before_at order (suc n) b distinct e ∙ there)) ∙ sym there

pub last_some : (order : List ℕ) (n b : ℕ) → last_of n order ≡ Some b → 0 < n
last_some order zero b is = absurd (none-some b is)
last_some order (suc n) b is = omega arith

pub last_none : (order : List ℕ) (n : ℕ) → n ≤ length order → last_of n order ≡ None → n ≡ 0
last_none order zero few none = refl
last_none order (suc n) few none = absurd (omega (arith, few, get_none order n none))

module _ (b : ℕ) where
  earlier_stays : (order : List ℕ) (at n : ℕ) → AllPairs ◌≢◌ order → slice_get order at ≡ Some b → n < at
      → slice_get (without_bucket b order) n ≡ slice_get order n
  earlier_stays [] at n d e h = absurd (none-some b e)
  earlier_stays (c ∷ cs) zero n d e h = absurd (omega (arith, h))
  earlier_stays (c ∷ cs) (suc at) zero d e h =
      rw (ne_eqb c b (λ same. distinct_head c cs d (subst (Contains cs) (sym same) (got_in cs at b e)))) refl
  earlier_stays (c ∷ cs) (suc at) (suc n) d e h =
      rw (ne_eqb c b (λ same. distinct_head c cs d (subst (Contains cs) (sym same) (got_in cs at b e))))
      (earlier_stays cs at n (distinct_tail c cs d) e (omega (arith, h)))

  pub last_stays : (order : List ℕ) (at : ℕ) → AllPairs ◌≢◌ order → slice_get order at ≡ Some b
      → last_of at (without_bucket b order) ≡ last_of at order
  last_stays order zero d e = refl
  last_stays order (suc at) d e = earlier_stays order (suc at) at d e (omega arith)

pub last_place : (order : List ℕ) (n b : ℕ) → 0 < n → last_of n order ≡ Some b → slice_get order (n - 1) ≡ Some b
last_place order zero b some is = absurd (none-some b is)
last_place order (suc n) b some is = ap (slice_get order) (omega arith) ∙ is
