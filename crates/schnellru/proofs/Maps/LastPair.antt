use Rattle.std.proofs.Common.{◌≡◌, ℕ, Bool, true, [], ◌∷◌, ◌++◌, Some, sym, ap, ◌∙◌, subst}
use Rattle.std.specs.Prelude.{option_to_list}
use Rattle.std.specs.Cmp.{IsEquivalence}
use Rattle.group_table.specs.Bucket.{entry_at, bucket_states}
use Rattle.lru_model.specs.Lists.{without, back, back_places}
use Rattle.ordered_table.specs.OrderedTable.{OrderedTable, IsLinked, KeysFit, pairs_of, entries_in, without_bucket}
use Rattle.schnellru.specs.Inside.Fields.{Fields}
use Rattle.schnellru.specs.Inside.Holds.{counts_of, state_of, Holds}
use Rattle.lru_model.specs.Calls.{demoted}
use Rattle.lru_model.proofs.PairLists.DistinctKeys.{AreDistinct, distinct_last}
use Rattle.ordered_table.proofs.Tables.BucketPairs.{pair_found, others_are, place_found, other_places_are}
use Rattle.ordered_table.proofs.Tables.OrderCuts.{entries-append}
use Rattle.schnellru.proofs.Maps.HeldMaps.{alike_holds}

module _ {K V : Type 0} (t v : OrderedTable K V) (linked : IsLinked t) (b : ℕ) (p : K × V) (there : entry_at t.slots b
    ≡ Some p)
    (slots : v.slots ≡ t.slots) (order : v.order ≡ without_bucket b t.order ++ b ∷ [])
    (counted : v.insertions ≡ t.insertions)
    (names : K → Bool) {eq : K → K → Bool} (laws : IsEquivalence eq) (one : (x y : K) → names x ≡ true → names y
    ≡ eq x y) (named : names p.0 ≡ true)
    (distinct : AreDistinct eq (pairs_of t)) where
  demoted_pairs : pairs_of v ≡ back names (pairs_of t)
  demoted_pairs = ap (entries_in v.slots) order
      ∙ ap (λ s. entries_in s (without_bucket b t.order ++ b ∷ [])) slots
      ∙ entries-append t.slots (without_bucket b t.order) (b ∷ [])
      ∙ ap (λ o. entries_in t.slots (without_bucket b t.order) ++ (option_to_list o ++ [])) there
      ∙ ap (λ l. l ++ p ∷ []) (sym (others_are t linked b p there names laws one distinct named))
      ∙ ap (λ o. without names (pairs_of t) ++ option_to_list o)
      (sym (pair_found t linked b p there names laws one distinct named))

  last_places : back_places names (pairs_of t) t.order ≡ without_bucket b t.order ++ b ∷ []
  last_places = λ i. other_places_are t linked b p there names laws one distinct named i
      ++ option_to_list (place_found t linked b p there names laws one distinct named i)

  module _ {S H : Type 0} (fields : Fields S H) where
    pub demoted_state : state_of v fields ≡ demoted names (state_of t fields)
    demoted_state = λ i. record (state_of v fields) {
      pairs = demoted_pairs i;
      table = record { states = bucket_states (slots i); places = (order ∙ sym last_places) i };
      counts = counts_of (counted i) fields;
    }

    pub demoted_holds : (hash_of : H → K → ℕ) → Holds eq hash_of t fields → IsLinked v → Holds eq hash_of v fields
    demoted_holds hash_of holds next = alike_holds fields eq hash_of t v counted holds next
        (subst (KeysFit (hash_of fields.hasher)) (sym slots) holds.fits)
        (ap bucket_states slots) (subst (AreDistinct eq) (sym demoted_pairs)
        (distinct_last eq names laws (pairs_of t) distinct))
