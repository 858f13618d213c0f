use Rattle.std.proofs.Common.{◌≡◌, ℕ, suc, Bool, Option, Some, length, refl, sym, ap, ◌∙◌, subst}
use Rattle.std.specs.Cmp.{IsEquivalence}
use Rattle.group_table.proofs.ChangeLemmas.{length-removed, states-removed}
use Rattle.group_table.proofs.SearchLemmas.{full_by_entry}
use Rattle.group_table.specs.Bucket.{bucket_at}
use Rattle.lru_limits.specs.Rules.{Rules}
use Rattle.ordered_table.specs.OrderedTable.{OrderedTable, IsLinked, KeysFit, pairs_of, entries_in, without_bucket}
use Rattle.lru_model.specs.State.{Contents, Frees, Leaves, notified_of}
use Rattle.lru_model.specs.Calls.{left_of}
use Rattle.schnellru.specs.Inside.Steps.{IsTakenOut}
use Rattle.schnellru.specs.Inside.Fields.{Fields}
use Rattle.schnellru.specs.Inside.Holds.{counts_of, table_state, state_of, Holds}
use Rattle.lru_model.proofs.PairLists.DistinctKeys.{AreDistinct, distinct_without}
use Rattle.schnellru.proofs.Maps.HeldMaps.{frees_room, leaves_holds}
use Rattle.ordered_table.proofs.Tables.BucketPairs.{shorter, others_are, removed-entries}

module _ {K V S : Type 0} (rules : Rules K V S) (t u : OrderedTable K V) (b : ℕ) (limiter notified : S) (result : K × V)
    (out : IsTakenOut rules b t u limiter result notified) where
  pub taken_pairs : pairs_of u ≡ entries_in t.slots (without_bucket b t.order)
  taken_pairs = ap (entries_in u.slots) out.takes.order ∙ removed-entries t.slots u.slots b out.takes.removed t.order

  module _ (pair : Option (K × V)) (is : pair ≡ Some out.pair) where
    pub taken_left : Some result ≡ left_of rules limiter pair
    taken_left = out.left ∙ ap (left_of rules limiter) (sym is)

    pub taken_notified : notified ≡ notified_of rules pair limiter
    taken_notified = out.notified ∙ ap (λ o. notified_of rules o limiter) (sym is)

  pub taken_frees : (place : Option ℕ) → place ≡ Some b → Frees place (table_state t) (table_state u)
  taken_frees place is = record {
    bucket = b;
    there = is;
    freed = states-removed t.slots u.slots b out.takes.removed;
    others = out.takes.order;
  }

  module _ {H : Type 0} (first : IsLinked t) (next : IsLinked u) (fields : Fields S H) where
    pub taken_leaves : (left : Contents K V S) → pairs_of u ≡ left.pairs → notified ≡ left.limiter
        → Leaves (state_of t fields) left (state_of u (record fields { limiter = notified }))
    taken_leaves left pairs_are notified_is = record {
      is = λ i. record (state_of u (record fields { limiter = notified_is i })) {
        pairs = pairs_are i;
        counts = counts_of (out.takes.insertions i) fields;
      };
      growth_left = frees_room t u b first next (length-removed t.slots u.slots b out.takes.removed)
          (ap (λ o. suc (length o)) out.takes.order
          ∙ shorter t first b (full_by_entry (bucket_at t.slots b) out.pair out.takes.pair)) out.takes.growth_left;
    }

    pub taken_holds : {eq : K → K → Bool} → IsEquivalence eq → (hash_of : H → K → ℕ) → Holds eq hash_of t fields
        → KeysFit (hash_of fields.hasher) u.slots
        → Holds eq hash_of u (record fields { limiter = notified })
    taken_holds {eq} laws hash_of holds fits =
        leaves_holds fields eq hash_of t u (record { pairs = pairs_of u; limiter = notified }) notified holds next fits
        (length-removed t.slots u.slots b out.takes.removed)
        (taken_leaves (record { pairs = pairs_of u; limiter = notified }) refl refl)
        (subst (AreDistinct eq) (others_are t first b out.pair out.takes.pair (eq out.pair.0) laws
        (λ x y e. laws.congr out.pair.0 x y e) holds.map.distinct (laws.refl out.pair.0) ∙ sym taken_pairs)
        (distinct_without eq (eq out.pair.0) (pairs_of t) holds.map.distinct))
