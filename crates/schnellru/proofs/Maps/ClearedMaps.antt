use Rattle.std.proofs.Common.{◌≡◌, ℕ, Bool, [], length, replicate, sym, ap, ◌∙◌, subst, arith}
use Rattle.std.proofs.lemmas.List.{length-replicate}
use Rattle.group_table.specs.Sizes.{full_capacity}
use Rattle.group_table.specs.Bucket.{BucketState, empty, bucket_states, growth_left}
use Rattle.group_table.proofs.BucketLemmas.{length-bucket_states}
use Rattle.lru_limits.specs.Rules.{Rules}
use Rattle.ordered_table.specs.OrderedTable.{OrderedTable, IsLinked, KeysFit, pairs_of, entries_in}
use Rattle.lru_model.specs.State.{buckets}
use Rattle.lru_model.specs.Calls.{cleared}
use Rattle.schnellru.specs.Inside.Fields.{Fields}
use Rattle.schnellru.specs.Inside.Holds.{counts_of, state_of, Holds}
use Rattle.ordered_table.proofs.Tables.Clears.{bucket_states-cleared}
use Rattle.lru_model.proofs.PairLists.DistinctKeys.{none_distinct, AreDistinct}
use Rattle.schnellru.proofs.Maps.HeldMaps.{sized_same}
use Rattle.lru_model.proofs.Theorems.CallChanges.{room_cleared}

module _ {K V S H : Type 0} (rules : Rules K V S) (t u : OrderedTable K V)
    (slots : u.slots ≡ replicate (length t.slots) empty) (order : u.order ≡ [])
    (counted : u.insertions ≡ t.insertions) (fields : Fields S H) (notified : S)
    (is_notified : notified ≡ rules.on_cleared fields.limiter) where
  states : bucket_states u.slots ≡ replicate (buckets (state_of t fields)) empty
  states = ap bucket_states slots ∙ bucket_states-cleared _ (length t.slots)
      ∙ ap (λ n. replicate n empty) (sym (length-bucket_states t.slots))

  placed : u.insertions.placed ≡ t.insertions.placed
  placed = ap (λ c. c.placed) counted

  none_left : pairs_of u ≡ []
  none_left = ap (entries_in u.slots) order

  pub cleared_is : state_of u (record fields { limiter = notified }) ≡ cleared rules (state_of t fields)
  cleared_is = λ i. record (state_of u (record fields { limiter = is_notified i })) {
    pairs = none_left i;
    table = record { states = states i; places = order i };
    counts = counts_of (counted i) fields;
  }

  pub cleared_holds : (eq : K → K → Bool) (hash_of : H → K → ℕ) → Holds eq hash_of t fields → IsLinked u
      → KeysFit (hash_of fields.hasher) u.slots
      → Holds eq hash_of u (record fields { limiter = notified })
  cleared_holds eq hash_of holds next fits = record {
    linked = next;
    fits = fits;
    map = record {
      distinct = subst (AreDistinct eq) (sym none_left) (none_distinct eq);
      sized = sized_same fields t u notified holds.map.sized next
          (ap length slots ∙ length-replicate (length t.slots) empty)
          (omega (arith, placed, holds.map.sized.placed));
      paid =
          let as_many : length (bucket_states u.slots) ≡ buckets (state_of t fields) = ap length states
          ∙ length-replicate {A = BucketState} (buckets (state_of t fields)) empty in
          record {
            moved = omega (arith, placed, holds.map.paid.moved);
            ahead = λ below. omega (
              arith,
              placed,
              holds.map.paid.ahead below,
              ap growth_left states,
              room_cleared (buckets (state_of t fields)),
              as_many,
              ap full_capacity as_many,
            );
          };
    };
  }
