use Rattle.std.proofs.Common.{◌≡◌, ℕ, Bool, true, List, [], ◌∷◌, ◌++◌, Some, None, refl, sym, ap, ◌∙◌, subst}
use Rattle.std.specs.Prelude.{option_to_list}
use Rattle.std.specs.Cmp.{IsEquivalence}
use Rattle.group_table.specs.Bucket.{bucket_at, entry_at, bucket_states}
use Rattle.group_table.proofs.RefillLemmas.{bucket_states-refilled}
use Rattle.group_table.proofs.SearchLemmas.{full_by_entry}
use Rattle.lru_model.specs.Lists.{is_empty, first as first_pair, without, front, after}
use Rattle.lru_model.specs.Lists.{newest_value, set_newest}
use Rattle.ordered_table.specs.OrderedTable.{OrderedTable, IsLinked, KeysFit, pairs_of, entries_in, without_bucket}
use Rattle.ordered_table.specs.OrderedTable.{with_pair}
use Rattle.lru_model.specs.Lists.{first as first_bucket}
use Rattle.schnellru.specs.Inside.Fields.{Fields}
use Rattle.schnellru.specs.Inside.Holds.{counts_of, state_of, Holds}
use Rattle.lru_model.specs.Calls.{promoted}
use Rattle.ordered_table.proofs.Chains.Orders.{first_in, before_is, before_first}
use Rattle.ordered_table.proofs.Chains.Neighbours.{newest_again}
use Rattle.lru_model.proofs.PairLists.DistinctKeys.{AreDistinct, distinct_first}
use Rattle.ordered_table.proofs.Tables.BucketPairs.{pair_found, others_are, places_are}
use Rattle.schnellru.proofs.Maps.HeldMaps.{alike_holds}
use Rattle.schnellru.proofs.Maps.Writes.{written_first, kept_holds}

pub record HasNoNewest {K V : Type 0} (pairs : List (K × V)) : Type 0 where
  pub first : first_pair pairs ≡ None
  pub value : newest_value pairs ≡ None
  pub set : (w : V) → set_newest pairs w ≡ pairs

pub none_newest : {K V : Type 0} (pairs : List (K × V)) → is_empty pairs ≡ true → HasNoNewest pairs
none_newest [] h = record { first = refl; value = refl; set = λ w. refl }
none_newest (p ∷ ps) h = absurd cc

module _ {K V : Type 0} (t v : OrderedTable K V) (linked : IsLinked t) (b : ℕ) (p : K × V) (there : entry_at t.slots b
    ≡ Some p)
    (slots : v.slots ≡ t.slots) (order : v.order ≡ b ∷ without_bucket b t.order) (counted : v.insertions ≡ t.insertions)
    (names : K → Bool) {eq : K → K → Bool} (laws : IsEquivalence eq) (one : (x y : K) → names x ≡ true → names y
    ≡ eq x y) (named : names p.0 ≡ true)
    (distinct : AreDistinct eq (pairs_of t)) where
  pub promoted_pairs : pairs_of v ≡ front names (pairs_of t)
  promoted_pairs = ap (entries_in v.slots) order
      ∙ ap (λ s. entries_in s (b ∷ without_bucket b t.order)) slots
      ∙ ap (λ o. option_to_list o ++ entries_in t.slots (without_bucket b t.order)) there
      ∙ ap (λ l. p ∷ l) (sym (others_are t linked b p there names laws one distinct named))
      ∙ ap (λ o. after o (without names (pairs_of t)))
      (sym (pair_found t linked b p there names laws one distinct named))

  module _ {S H : Type 0} (fields : Fields S H) where
    pub promoted_state : state_of v fields ≡ promoted names (state_of t fields)
    promoted_state = λ i. record (state_of v fields) {
      pairs = promoted_pairs i;
      table = record {
        states = bucket_states (slots i);
        places = (order ∙ sym (places_are t linked b p there names laws one distinct named)) i;
      };
      counts = counts_of (counted i) fields;
    }

    pub promoted_holds : (hash_of : H → K → ℕ) → Holds eq hash_of t fields → IsLinked v → Holds eq hash_of v fields
    promoted_holds hash_of holds next = alike_holds fields eq hash_of t v counted holds next
        (subst (KeysFit (hash_of fields.hasher)) (sym slots) holds.fits)
        (ap bucket_states slots) (subst (AreDistinct eq) (sym promoted_pairs)
        (distinct_first eq names one (pairs_of t) distinct))

module _ {K V : Type 0} (t : OrderedTable K V) (linked : IsLinked t) (b : ℕ) (p : K × V) (there : entry_at t.slots b
    ≡ Some p) (first : first_bucket t.order ≡ Some b) where
  pub newest_order : t.order ≡ b ∷ without_bucket b t.order
  newest_order = newest_again b t.order linked.distinct (first_in t.order b first) (before_is b t.order linked.distinct
      ∙ before_first None b t.order first)

  newest_pairs : pairs_of t ≡ p ∷ entries_in t.slots (without_bucket b t.order)
  newest_pairs = ap (entries_in t.slots) newest_order
      ∙ ap (λ o. option_to_list o ++ entries_in t.slots (without_bucket b t.order)) there

  pub newest_is : newest_value (pairs_of t) ≡ Some p.1
  newest_is = ap newest_value newest_pairs

  module _ (w : V) where
    newest_set : pairs_of (with_pair t b (p.0, w)) ≡ set_newest (pairs_of t) w
    newest_set = ap (entries_in (with_pair t b (p.0, w)).slots) newest_order
        ∙ written_first t b (p.0, w) (full_by_entry (bucket_at t.slots b) p there) t.order
        ∙ ap (λ l. set_newest l w) (sym newest_pairs)

    module _ {S H : Type 0} (fields : Fields S H) where
      pub newest_state : state_of (with_pair t b (p.0, w)) fields
          ≡ record (state_of t fields) { pairs = set_newest (pairs_of t) w }
      newest_state = λ i. record (state_of t fields) {
        pairs = newest_set i;
        table = record { states = bucket_states-refilled t.slots b (p.0, w) i; places = t.order };
      }

      pub newest_holds : {eq : K → K → Bool} → IsEquivalence eq → (hash_of : H → K → ℕ) → Holds eq hash_of t fields
          → IsLinked (with_pair t b (p.0, w)) → KeysFit (hash_of fields.hasher) (with_pair t b (p.0, w)).slots
          → Holds eq hash_of (with_pair t b (p.0, w)) fields
      newest_holds {eq} laws hash_of holds next fits =
          kept_holds t linked b p there (eq p.0) laws (λ x y h. laws.congr p.0 x y h)
          (laws.refl p.0) holds.map.distinct
          fields w hash_of holds next fits
