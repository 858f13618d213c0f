use Rattle.std.proofs.Common.{◌≡◌, ℕ, suc, ◌+◌, Bool, true, false, refl, Some, sym, ap, ◌∙◌, subst, arith, length}
use Rattle.std.specs.Prelude.{if◌then◌else◌}
use Rattle.std.specs.Cmp.{IsEquivalence}
use Rattle.std.proofs.lemmas.List.{length-set}
use Rattle.std.proofs.lemmas.Option.{same_Some}
use Rattle.group_table.specs.Bucket.{bucket_at, entry_at, refilled, bucket_states, growth_left, growth_left_at}
use Rattle.group_table.specs.Change.{Removes}
use Rattle.group_table.proofs.ChangeLemmas.{length-removed}
use Rattle.group_table.proofs.RefillLemmas.{entry_at-refilled, bucket_states-refilled}
use Rattle.group_table.proofs.SearchLemmas.{full_by_entry}
use Rattle.lru_limits.specs.Rules.{Rules, Replaced}
use Rattle.lru_model.specs.Lists.{without, set_entry}
use Rattle.ordered_table.specs.OrderedTable.{OrderedTable, IsLinked, KeysFit, with_pair, without_bucket, pairs_of}
use Rattle.ordered_table.specs.OrderedTable.{entries_in}
use Rattle.ordered_table.specs.Offers.{Offered}
use Rattle.lru_model.specs.State.{State, Leaves}
use Rattle.schnellru.specs.Inside.Fields.{Fields}
use Rattle.schnellru.specs.Inside.Holds.{counts_of, state_of, Holds}
use Rattle.schnellru.specs.Inside.Steps.{IsReplaced, IsRemoved, IsTakenOut}
use Rattle.lru_model.proofs.PairLists.DistinctKeys.{AreDistinct, distinct_set, distinct_without}
use Rattle.ordered_table.proofs.Tables.OrderCuts.{entries-apart, without_lacks}
use Rattle.schnellru.proofs.Maps.Writes.{set_pairs}
use Rattle.ordered_table.proofs.Tables.BucketPairs.{pairs-length, shorter, others_are, removed-entries}
use Rattle.schnellru.proofs.Maps.HeldMaps.{frees_room, leaves_holds}

module _ {K V S : Type 0} {by : Replaced K V S} {accepts : Bool} {after : K × V} {s : S} {value : V}
    (offered : Offered by accepts after s value) where
  pub if_accepted : accepts ≡ true → after ≡ (by.key, by.new_value)
  if_accepted e = offered.after_is
      ∙ ap (λ taken. (by.key, if taken then by.new_value else by.old_value)) (sym offered.taken ∙ e)

  if_refused : accepts ≡ false → after ≡ (by.key, by.old_value)
  if_refused e = offered.after_is
      ∙ ap (λ taken. (by.key, if taken then by.new_value else by.old_value)) (sym offered.taken ∙ e)

  module _ (rules : Rules K V S) (refused : accepts ≡ false) (old : OrderedTable K V) {mid new : OrderedTable K V}
      {b : ℕ} {was : K × V} (there : entry_at old.slots b ≡ Some was) (table : mid ≡ with_pair old b after) {result : K × V} {l : S}
      (takes : IsTakenOut rules b mid new s result l) where
    out : IsTakenOut rules b (with_pair old b after) new s result l
    out = subst (λ t. IsTakenOut rules b t new s result l) table takes

    taken_is : out.pair ≡ (by.key, by.old_value)
    taken_is = same_Some out.pair after
        (sym out.takes.pair ∙ entry_at-refilled old.slots b after (full_by_entry (bucket_at old.slots b) was there))
        ∙ if_refused refused

    pub is_removed : IsRemoved rules by b old new l
    is_removed = record {
      slots = subst (λ p. Removes (with_pair old b p).slots new.slots b) (if_refused refused) out.takes.removed;
      order = out.takes.order;
      insertions = out.takes.insertions;
      growth_left = out.takes.growth_left ∙ ap (λ m. growth_left m + growth_left_at (bucket_states new.slots) b) (bucket_states-refilled old.slots b after);
      notified = out.notified ∙ (λ i.
          (rules.on_removed (offered.notified i) (taken_is i).0 (taken_is i).1).limiter);
    }

    pub left_as_notified : let left = rules.on_removed by.limiter by.key by.old_value in
        ◌≡◌ {A = K × V} result (left.key, left.value)
    left_as_notified =
        let was_left = rules.on_removed s out.pair.0 out.pair.1 in
        same_Some result (was_left.key, was_left.value) out.left
        ∙ (λ i. let left = rules.on_removed (offered.notified i) (taken_is i).0 (taken_is i).1 in
        (left.key, left.value))

module _ {K V S H : Type 0} (by : Replaced K V S) (old new : OrderedTable K V) (b : ℕ) (l : S) (first : IsLinked old)
    (next : IsLinked new)
    (was : K × V) (there : entry_at old.slots b ≡ Some was) (names : K → Bool) {eq : K → K → Bool}
    (laws : IsEquivalence eq)
    (one : (x y : K) → names x ≡ true → names y ≡ eq x y) (distinct : AreDistinct eq (pairs_of old))
    (named : names was.0 ≡ true)
    (fields : Fields S H) where
  abbrev before : State K V S H
  before = state_of old fields

  abbrev after : State K V S H
  after = state_of new (record fields { limiter = l })

  others : (p : K × V) → entries_in (with_pair old b p).slots (without_bucket b old.order)
      ≡ without names (pairs_of old)
  others p = entries-apart old.slots b (refilled (bucket_at old.slots b) p) (without_bucket b old.order)
      (without_lacks b old.order)
      ∙ sym (others_are old first b was there names laws one distinct named)

  fewer : suc (length (without_bucket b old.order)) ≡ length old.order
  fewer = shorter old first b (full_by_entry (bucket_at old.slots b) was there)

  module _ (step : IsReplaced by b old new l) where
    replaced_pairs : pairs_of new ≡ set_entry names (by.key, by.new_value) (pairs_of old)
    replaced_pairs = (λ i. entries_in (step.slots i) (step.order i))
        ∙ set_pairs old first b was there names laws one named distinct (by.key, by.new_value)

    pub replaced_leaves : Leaves before (record {
      pairs = set_entry names (by.key, by.new_value) (pairs_of old);
      limiter = by.limiter;
    }) after
    replaced_leaves =
        let states = ap bucket_states step.slots ∙ bucket_states-refilled old.slots b (by.key, by.new_value) in
        let lengths : length (pairs_of new)
        ≡ length (pairs_of old) = omega
        (arith, pairs-length old first, pairs-length new next, ap length step.order) in record {
          is = λ i. record (state_of new (record fields { limiter = step.notified i })) {
            pairs = replaced_pairs i;
            counts = counts_of (step.insertions i) fields;
          };
          growth_left = record {
            table = ap length states;
            keeps = omega (arith, ap growth_left states);
            at_most = omega (arith, ap growth_left states, lengths);
            exact = λ _. omega (arith, ap growth_left states, lengths);
            untouched = λ _. states;
          };
        }

    replaced_holds : (hash_of : H → K → ℕ) → names by.key ≡ true → Holds eq hash_of old fields
        → KeysFit (hash_of fields.hasher) new.slots → Holds eq hash_of new (record fields { limiter = l })
    replaced_holds hash_of kept holds fits = leaves_holds fields eq hash_of old new _ l holds next fits
        (ap length step.slots ∙ length-set old.slots b _) replaced_leaves
        (subst (AreDistinct eq) (sym replaced_pairs)
        (distinct_set eq names one laws (by.key, by.new_value) kept (pairs_of old) distinct))

  module _ (rules : Rules K V S) (step : IsRemoved rules by b old new l) where
    pub removed_pairs : pairs_of new ≡ without names (pairs_of old)
    removed_pairs = ap (entries_in new.slots) step.order
        ∙ removed-entries (with_pair old b (by.key, by.old_value)).slots new.slots b step.slots old.order
        ∙ others (by.key, by.old_value)

    pub removed_length : length new.slots ≡ length old.slots
    removed_length = length-removed (with_pair old b (by.key, by.old_value)).slots new.slots b step.slots
        ∙ length-set old.slots b _

    pub removed_leaves : Leaves before
        (record {
          pairs = without names (pairs_of old);
          limiter = (rules.on_removed by.limiter by.key by.old_value).limiter;
        }) after
    removed_leaves = record {
      is = λ i. record (state_of new (record fields { limiter = step.notified i })) {
        pairs = removed_pairs i;
        counts = counts_of (step.insertions i) fields;
      };
      growth_left = frees_room old new b first next removed_length (ap (λ o. suc (length o)) step.order
          ∙ fewer) step.growth_left;
    }

    removed_holds : (hash_of : H → K → ℕ) → Holds eq hash_of old fields
        → KeysFit (hash_of fields.hasher) new.slots → Holds eq hash_of new (record fields { limiter = l })
    removed_holds hash_of holds fits = leaves_holds fields eq hash_of old new _ l holds next fits removed_length
        removed_leaves
        (subst (AreDistinct eq) (sym removed_pairs) (distinct_without eq names (pairs_of old) distinct))

  module _ (rules : Rules K V S) (accepts : Bool) (replaced : accepts ≡ true → IsReplaced by b old new l)
      (removed : accepts ≡ false → IsRemoved rules by b old new l) where
    pub offered_holds : (hash_of : H → K → ℕ) → names by.key ≡ true → Holds eq hash_of old fields
        → KeysFit (hash_of fields.hasher) new.slots → Holds eq hash_of new (record fields { limiter = l })
    offered_holds hash_of kept holds fits = go accepts refl
      where
        go : (y : Bool) → accepts ≡ y → Holds eq hash_of new (record fields { limiter = l })
        go true e = replaced_holds (replaced e) hash_of kept holds fits
        go false e = removed_holds rules (removed e) hash_of holds fits
