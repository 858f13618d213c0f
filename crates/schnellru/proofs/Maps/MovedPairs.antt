use Rattle.std.proofs.Common.{◌≡◌, ℕ, ◌+◌, ◌*◌, ◌<◌, ◌≤◌, inr, Bool, length, Some, sym, ap, ◌∙◌, subst, arith}
use Rattle.group_table.specs.Sizes.{full_capacity}
use Rattle.group_table.specs.Bucket.{bucket_states, growth_left}
use Rattle.group_table.specs.Change.{count_up, some_moved, insertion_count}
use Rattle.group_table.proofs.BucketLemmas.{length-bucket_states}
use Rattle.group_table.proofs.ChangeLemmas.{insertion_count-moved}
use Rattle.lru_model.specs.Sizes.{usage}
use Rattle.lru_model.specs.State.{MovesTo}
use Rattle.ordered_table.specs.OrderedTable.{OrderedTable, IsLinked, KeysFit, pairs_of}
use Rattle.schnellru.specs.Inside.Fields.{Fields}
use Rattle.schnellru.specs.Inside.Holds.{counts_of, state_of, Holds}
use Rattle.lru_model.proofs.PairLists.DistinctKeys.{AreDistinct}
use Rattle.ordered_table.proofs.Tables.BucketPairs.{pairs-length}
use Rattle.schnellru.proofs.Maps.HeldMaps.{sized_by}

module _ {K V S H : Type 0} (t u : OrderedTable K V) (count : ℕ) (linked : IsLinked t) (next : IsLinked u)
    (table : length u.slots ≡ count)
    (pairs : pairs_of u ≡ pairs_of t) (left : growth_left (bucket_states u.slots) + length t.order ≡ full_capacity count)
    (counted : u.insertions ≡ some_moved t.insertions (length t.order)) (fields : Fields S H) where
  pub placed : u.insertions.placed ≡ t.insertions.placed
  placed = ap (λ c. c.placed) counted

  pub moves_to : MovesTo count (state_of t fields) (state_of u fields)
  moves_to = record {
    table = length-bucket_states u.slots ∙ table;
    exact = omega (arith, left, pairs-length t linked);
    state = λ i. record (state_of u fields) {
      pairs = pairs i;
      counts = record (counts_of u.insertions fields) {
        insertions = (ap insertion_count counted ∙ insertion_count-moved t.insertions (length t.order)
            ∙ ap (count_up (insertion_count t.insertions)) (sym (pairs-length t linked))) i;
        placed = placed i;
      };
    };
  }

  pub moves_holds : (eq : K → K → Bool) (hash_of : H → K → ℕ) → Holds eq hash_of t fields
      → KeysFit (hash_of fields.hasher) u.slots → count < fields.max
      → ((bytes : ℕ) × (usage fields.entry_bytes count ≡ Some bytes)) → 2 * length (pairs_of t) ≤ full_capacity count
      → Holds eq hash_of u fields
  moves_holds eq hash_of holds fits reached usable half = record {
    linked = next;
    fits = fits;
    map = record {
      distinct = subst (AreDistinct eq) (sym pairs) holds.map.distinct;
      sized = sized_by fields u next (inr (subst (λ n. n < fields.max) (sym table) reached))
          (subst (λ n. (bytes : ℕ) × (usage fields.entry_bytes n ≡ Some bytes)) (sym table) usable)
          holds.map.sized.moved (omega (arith, placed, holds.map.sized.placed)) holds.map.sized.shrunk;
      paid = record {
        moved = omega (arith, placed, holds.map.paid.moved);
        ahead = λ below. omega
            (arith, placed, moves_to.exact, ap full_capacity moves_to.table, half, holds.map.paid.ahead below);
      };
    };
  }
