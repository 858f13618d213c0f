-- A pair is stored in the first free bucket of a linked table, as the newest.
use Rattle.std.proofs.Common.{◌≡◌, ℕ, ◌^◌, ◌<◌, ◌∷◌, ◌++◌, length, sym, ap, ◌∙◌, arith}
use Rattle.std.proofs.Common.{slice_set, subst, Bool, None}
use Rattle.std.specs.Prelude.{option_to_list}
use Rattle.std.proofs.lemmas.List.{length-set, get_or-set_same}
use Rattle.group_table.specs.Sizes.{full_capacity}
use Rattle.group_table.specs.Bucket.{empty, full, entry_of, bucket_states}
use Rattle.group_table.specs.Bucket.{IsFull}
use Rattle.group_table.specs.Probe.{hash_tag, filled}
use Rattle.group_table.specs.Change.{count_up, insertion_count}
use Rattle.group_table.proofs.ChangeLemmas.{insertion_count-placed}
use Rattle.std.proofs.lemmas.Bool.{false≢true}
use Rattle.group_table.proofs.FirstFree.{fills_within}
use Rattle.group_table.proofs.BucketLemmas.{length-bucket_states, is_full-bucket_states, bucket_states-set}
use Rattle.lru_model.specs.State.{Counts, buckets, potential, count_insert, IsSound, IsSized, IsPaid}
use Rattle.lru_model.specs.Place.{IsPlaced, FillsBucket}
use Rattle.lru_model.specs.Lists.{lookup_entry}
use Rattle.ordered_table.specs.OrderedTable.{OrderedTable, IsLinked, KeysFit, Lands, pairs_of, entries_in}
use Rattle.std.specs.List.{IsDistinct}
use Rattle.lru_model.proofs.PairLists.DistinctKeys.{AreDistinct, absent_keys}
use Rattle.schnellru.specs.Inside.Fields.{Fields}
use Rattle.schnellru.specs.Inside.Holds.{table_state, state_of, Holds}
use Rattle.ordered_table.proofs.Tables.OrderCuts.{entries-apart}
use Rattle.ordered_table.proofs.Chains.Orders.{Lacks, lacks_unless}
use Rattle.lru_model.proofs.TableSizes.FilledBuckets.{fills_free}
use Rattle.schnellru.proofs.Maps.HeldMaps.{sized_same, growth_left_at-most}
use Rattle.lru_model.proofs.Theorems.Potential.{pays_insertion}
use Rattle.lru_model.proofs.Theorems.PaidMoves.{paid_after}

pub count_up-none : (n : ℕ) → n < 2 ^ 64 → n ≡ count_up n 0
count_up-none n h = grind (arith, h)

module _ {K V : Type 0} (t u : OrderedTable K V) (hash : ℕ) (pair : K × V) (b : ℕ) (linked : IsLinked t)
    (lands : Lands t u hash pair b) where
  pub lands_within : b < length t.slots
  lands_within = fills_within t.slots hash b lands.first lands.may

  pub lands_length : length u.slots ≡ length t.slots
  lands_length = ap length lands.slots ∙ length-set t.slots b _

  apart : Lacks b t.order
  apart = lacks_unless b t.order (λ k. let f : IsFull t.slots b = linked.only b k in
      false≢true (sym lands.first.free_there ∙ is_full-bucket_states t.slots b ∙ f))

  pub lands_pairs : pairs_of u ≡ pair ∷ pairs_of t
  lands_pairs = ap (entries_in u.slots) lands.order
      ∙ ap (λ s. entries_in s (b ∷ t.order)) lands.slots
      ∙ ap (λ s. option_to_list (entry_of s)
      ++ entries_in (slice_set t.slots b (full (record { tag = hash_tag hash; entry = pair }))) t.order)
      (get_or-set_same t.slots b (full (record { tag = hash_tag hash; entry = pair })) empty lands_within)
      ∙ ap (λ l. pair ∷ l) (entries-apart t.slots b _ t.order apart)

  pub lands_fills : {n entry_bytes max : ℕ} {counts : Counts} → IsSound n entry_bytes max (bucket_states t.slots) counts
      → FillsBucket hash (table_state t) (table_state u)
  lands_fills sound = fills_free (table_state t) (table_state u) sound hash b
      (subst (λ n. b < n) (sym (length-bucket_states t.slots)) lands_within) lands.first lands.growth_left
      (ap bucket_states lands.slots ∙ bucket_states-set t.slots b (filled hash pair)) lands.order

  placed : u.insertions.placed ≡ count_up t.insertions.placed 1
  placed = ap (λ c. c.placed) lands.insertions

  module _ {S H : Type 0} (fields : Fields S H) (sized : IsSized (state_of t fields)) where
    counts_insert : (state_of u fields).counts ≡ count_insert 0 (state_of t fields).counts
    counts_insert = λ i. record (state_of u fields).counts {
      insertions = (ap insertion_count lands.insertions ∙ insertion_count-placed t.insertions) i;
      moved = count_up-none fields.moved sized.moved i;
      placed = placed i;
    }

    pub lands_placed : IsPlaced pair (buckets (state_of t fields)) 0 (state_of t fields)
        (state_of u fields)
    lands_placed = record {
      table = length-bucket_states u.slots ∙ lands_length ∙ sym (length-bucket_states t.slots);
      state = λ i. record (state_of u fields) { pairs = lands_pairs i; counts = counts_insert i };
    }

    pub lands_sized : IsLinked u → IsSized (state_of u fields)
    lands_sized next = sized_same fields t u fields.limiter sized next lands_length (omega (arith, placed))

    pub lands_paid : IsPaid (potential (state_of t fields)) (state_of t fields).counts
        → IsPaid (potential (state_of u fields)) (state_of u fields).counts
    lands_paid paid = paid_after (state_of t fields) (state_of u fields)
        (pays_insertion (state_of t fields) (state_of u fields) 0 sized.placed sized.shrunk counts_insert
        (omega (arith, lands.growth_left, growth_left_at-most (bucket_states t.slots) b, ap full_capacity lands_placed.table)))
        sized.moved (omega (arith, sized.table.addressable, lands_placed.table)) paid

    pub lands_holds : {eq : K → K → Bool} (hash_of : H → K → ℕ) → Holds eq hash_of t fields → IsLinked u
        → KeysFit (hash_of fields.hasher) u.slots
        → lookup_entry (eq pair.0) (pairs_of t) ≡ None → Holds eq hash_of u fields
    unfolding IsDistinct
    lands_holds {eq} hash_of holds next fits absent = record {
      linked = next;
      fits = fits;
      map = record {
        distinct = subst (AreDistinct eq) (sym lands_pairs)
            (absent_keys (eq pair.0) (pairs_of t) absent, holds.map.distinct);
        sized = lands_sized next;
        paid = lands_paid holds.map.paid;
      };
    }
