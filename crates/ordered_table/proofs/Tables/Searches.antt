use Rattle.std.proofs.Common.{◌≡◌, ℕ, Bool, true, false, cond, List, [], ◌∷◌, Some, None, refl, sym}
use Rattle.std.proofs.Common.{Option}
use Rattle.std.specs.Cmp.{IsEquivalence}
use Rattle.std.specs.Prelude.{IfSome}
use Rattle.group_table.specs.Bucket.{entry_at}
use Rattle.lru_model.specs.Lists.{lookup_entry, place_of}
use Rattle.ordered_table.specs.OrderedTable.{OrderedTable, IsLinked, pairs_of}
use Rattle.ordered_table.proofs.Tables.BucketPairs.{none_named, all_full, place_found}
use Rattle.ordered_table.proofs.Tables.Places.{place_holds}
use Rattle.lru_model.proofs.PairLists.DistinctKeys.{AreDistinct}

pub lookup_alike : {K V : Type 0} (names others : K → Bool) → ((k : K) → names k ≡ others k) → (xs : List (K × V))
    → lookup_entry names xs ≡ lookup_entry others xs
lookup_alike names others same [] = refl
lookup_alike names others same (x ∷ xs) = (λ i. cond (same x.0 i) (Some x) (lookup_alike names others same xs i))

module _ {K V : Type 0} (t : OrderedTable K V) (linked : IsLinked t) (names : K → Bool) (hash_of : K → ℕ) (hash : ℕ)
    (hashes : (k : K) → names k ≡ true → hash ≡ hash_of k)
    (none : (b : ℕ) (p : K × V) → entry_at t.slots b ≡ Some p → hash_of p.0 ≡ hash → names p.0 ≡ false) where
  pub not_found : lookup_entry names (pairs_of t) ≡ None
  not_found = none_named t linked names (λ b p there. go b p there (names p.0) refl)
    where
      go : (b : ℕ) (p : K × V) → entry_at t.slots b ≡ Some p → (y : Bool) → names p.0 ≡ y → names p.0 ≡ false
      go b p there true e = none b p there (sym (hashes p.0 e))
      go b p there false e = e

module _ {K V : Type 0} (t : OrderedTable K V) (linked : IsLinked t) (names : K → Bool) {eq : K → K → Bool}
    (laws : IsEquivalence eq) (one : (x y : K) → names x ≡ true → names y ≡ eq x y)
    (distinct : AreDistinct eq (pairs_of t)) where
  pub found_place : (r : Option ℕ)
      → IfSome r (λ b. (pair : K × V) × (entry_at t.slots b ≡ Some pair) × (names pair.0 ≡ true))
      → IfSome r (λ b. place_of names (pairs_of t) t.order ≡ Some b)
  found_place None h = h
  found_place (Some b) (pair, there, named) = place_found t linked b pair there names laws one distinct named

  pub pair_of_place : (b : ℕ) → place_of names (pairs_of t) t.order ≡ Some b
      → (p : K × V) × (entry_at t.slots b ≡ Some p) × (names p.0 ≡ true)
  pair_of_place b at = place_holds t.slots names t.order b (all_full t.slots t.order linked.only) at
