use Rattle.std.proofs.Common.{◌≡◌, ℕ, ◌+◌, ◌<◌, ◌≤◌, ◌⊎◌, inl, inr, Bool, length, Option, Some, sym, ap, ◌∙◌}
use Rattle.std.proofs.Common.{subst, arith}
use Rattle.group_table.specs.Sizes.{full_capacity, buckets_for}
use Rattle.group_table.specs.Bucket.{bucket_states, growth_left}
use Rattle.group_table.specs.Change.{count_up, some_moved}
use Rattle.group_table.proofs.BucketLemmas.{length-bucket_states}
use Rattle.lru_model.specs.Sizes.{usage}
use Rattle.lru_model.specs.State.{MovesTo, IsSized, buckets}
use Rattle.lru_model.specs.Shrinks.{shrink_counted}
use Rattle.ordered_table.specs.OrderedTable.{OrderedTable, IsLinked, KeysFit, pairs_of}
use Rattle.schnellru.specs.Inside.Fields.{Fields}
use Rattle.schnellru.specs.Inside.Holds.{state_of, Holds}
use Rattle.lru_model.proofs.PairLists.DistinctKeys.{AreDistinct}
use Rattle.lru_model.proofs.TableSizes.Budgets.{usage_fewer}
use Rattle.ordered_table.proofs.Tables.BucketPairs.{pairs-length}
use Rattle.schnellru.proofs.Maps.HeldMaps.{sized_by}
use Rattle.schnellru.proofs.Maps.MovedPairs.{moves_to}
use Rattle.lru_model.proofs.Theorems.PaidMoves.{paid_after}
use Rattle.lru_model.proofs.Theorems.Shrinks.{moved_pays}

module _ {K V S H : Type 0} (fields : Fields S H) (t : OrderedTable K V) (linked : IsLinked t) where
  pub needs : {most pairs : ℕ} {need : Option ℕ} → most ≡ fields.max → pairs ≡ length t.order
      → need ≡ buckets_for most pairs → buckets_for fields.max (length (pairs_of t)) ≡ need
  needs {most} {pairs} is_max is_pairs is =
      let pairs_are : pairs ≡ length (pairs_of t) = is_pairs ∙ sym (pairs-length t linked) in
      (λ i. buckets_for (sym is_max i) (sym pairs_are i)) ∙ sym is

module _ {K V S H : Type 0} (t u : OrderedTable K V) (count : ℕ) (linked : IsLinked t) (next : IsLinked u)
    (table : length u.slots ≡ count)
    (pairs : pairs_of u ≡ pairs_of t) (left : growth_left (bucket_states u.slots) + length t.order ≡ full_capacity count)
    (insertions : u.insertions ≡ some_moved t.insertions (length t.order)) (fields : Fields S H) where
  abbrev pub counted : Fields S H
  counted = record fields { shrunk = count_up fields.shrunk (length (pairs_of t)) }

  pub shrinks_to : MovesTo count (shrink_counted (state_of t fields)) (state_of u counted)
  shrinks_to = moves_to t u count linked next table pairs left insertions counted

  pub shrinks_holds : (eq : K → K → Bool) (hash_of : H → K → ℕ) → Holds eq hash_of t fields
      → KeysFit (hash_of fields.hasher) u.slots → count < length t.slots → Holds eq hash_of u counted
  shrinks_holds eq hash_of holds fits fewer = record {
    linked = next;
    fits = fits;
    map = record {
      distinct = subst (AreDistinct eq) (sym pairs) holds.map.distinct;
      sized = sized_by counted u next (reached sized.reachable)
          (usable.0, ap (usage fields.entry_bytes) table ∙ usable.1) sized.moved
          (omega (arith, ap (λ c. c.placed) insertions, sized.placed)) (omega arith);
      paid = paid_after (state_of t fields) (state_of u counted)
          (moved_pays (state_of t fields) count (state_of u counted) shrinks_to) sized.moved
          (omega (arith, shrinks_to.table, few, sized.table.addressable)) holds.map.paid;
    };
  }
    where
      sized : IsSized (state_of t fields)
      sized = holds.map.sized

      few : count < buckets (state_of t fields)
      few = omega (arith, fewer, length-bucket_states t.slots)

      usable : (less : ℕ) × (usage fields.entry_bytes count ≡ Some less) × (less ≤ sized.usable.0)
      usable = usage_fewer fields.entry_bytes count (buckets (state_of t fields)) sized.usable.0 (omega (arith, few))
          sized.usable.1

      reached : (buckets (state_of t fields) ≡ 0) ⊎ (buckets (state_of t fields) < fields.max)
          → (length u.slots ≡ 0) ⊎ (length u.slots < fields.max)
      reached (inl none) = absurd (omega (arith, few, none))
      reached (inr below) = inr (omega (arith, table, few, below))
