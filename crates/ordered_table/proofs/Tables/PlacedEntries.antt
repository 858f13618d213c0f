use Rattle.std.proofs.Common.{◌≡◌, ℕ, ◌+◌, ◌<◌, List, ◌∷◌, length, Some, ap, ◌∙◌, slice_set}
use Rattle.std.proofs.lemmas.List.{get_or-set_same}
use Rattle.std.specs.Prelude.{Contains, option_map}
use Rattle.group_table.specs.Link.{IsLinkType}
use Rattle.group_table.specs.Bucket.{Slot, empty, entry_of, entry_at, bucket_states, growth_left, growth_left_at}
use Rattle.group_table.specs.Probe.{filled}
use Rattle.group_table.specs.Table.{Table, IsTable}
use Rattle.group_table.specs.Change.{Places, MayFill}
use Rattle.group_table.specs.Fits.{Fits, with_hash}
use Rattle.group_table.proofs.FirstFree.{fills_within}
use Rattle.ordered_table.specs.declared.linked.Entry.{Entry}
use Rattle.ordered_table.specs.OrderedTable.{OrderedTable, IsLinked, KeysFit, Lands}
use Rattle.ordered_table.specs.Chain.{pair_slots, newer_at, older_at, along, IsChain, IsWhole}
use Rattle.ordered_table.proofs.Chains.WholeChains.{whole_order, IsWhole-shown, IsLinked-view, placed_absent}
use Rattle.ordered_table.proofs.Chains.WholeChains.{IsChain-placed, IsWhole-placed}
use Rattle.ordered_table.proofs.Tables.KeyHashes.{KeysFit-placed}
use Rattle.ordered_table.proofs.Tables.PairSlots.{pair_of, bucket_states-pair_slots, length-pair_slots, pair_slots-set}
use Rattle.ordered_table.proofs.Tables.PairSlots.{same_states}
use Rattle.ordered_table.proofs.Tables.PairSlots.{Fits-pair_slots, Fits-entries}

pub linked_room : {K V N : Type 0} (slots : List (Slot (Entry K V N))) → 0 < growth_left (bucket_states (pair_slots slots))
    → 0 < growth_left (bucket_states slots)
linked_room slots some = rw (← bucket_states-pair_slots slots) some

module _ {N : Type 0} {number : N → ℕ} {link : ℕ → N} {none : N}
    (laws : IsLinkType number link none) {K V : Type 0} {old new : Table (Entry K V N)} {newest oldest : N}
    {order : List ℕ} (whole : IsWhole number link none old.slots newest oldest order)
    {hash b : ℕ} {entry : Entry K V N} {pair : K × V} (is : pair_of entry ≡ pair)
    (places : Places old new hash entry b) (may : MayFill (bucket_states old.slots) b) where
  within : b < length old.slots
  within = fills_within old.slots hash b places.first may

  pub others_chained : (order : List ℕ) × IsChain number link none new.slots newest oldest order ×
      (Contains order b → ⊥)
  others_chained = (order, IsChain-placed laws whole places within, placed_absent laws whole places within)

  there : entry_at new.slots b ≡ Some entry
  there = ap (λ slots. entry_at slots b) places.slots
      ∙ ap entry_of (get_or-set_same old.slots b (filled hash entry) empty within)

  pub placed_newer : {l : N} → entry.newer ≡ l → newer_at new.slots b ≡ Some l
  placed_newer is = ap (option_map (λ x. x.newer)) there ∙ ap Some is

  pub placed_older : {l : N} → entry.older ≡ l → older_at new.slots b ≡ Some l
  placed_older is = ap (option_map (λ x. x.older)) there ∙ ap Some is

  abbrev before : OrderedTable K V
  before = record { slots = pair_slots old.slots; order = order; insertions = old.insertions }

  pairs_set : pair_slots new.slots ≡ slice_set (pair_slots old.slots) b (filled hash pair)
  pairs_set = ap pair_slots places.slots ∙ pair_slots-set old.slots b (filled hash entry)
      ∙ ap (λ p. slice_set (pair_slots old.slots) b (filled hash p)) is

  module _ (linked : Table (Entry K V N)) (newest' oldest' : N) (pairs : pair_slots linked.slots ≡ pair_slots new.slots)
      (insertions : linked.insertions ≡ new.insertions)
      (chain : (order : List ℕ) → IsChain number link none new.slots newest oldest order → (Contains order b → ⊥)
      → IsChain number link none linked.slots newest' oldest' (b ∷ order)) where
    linked_whole : IsWhole number link none linked.slots newest' oldest' (b ∷ order)
    linked_whole = IsWhole-placed laws whole places within pairs
        (chain order (IsChain-placed laws whole places within) (placed_absent laws whole places within))

    abbrev after : OrderedTable K V
    after = record {
      slots = pair_slots linked.slots;
      order = along number (length linked.slots) linked.slots newest';
      insertions = linked.insertions;
    }

    pub shown_whole : IsWhole number link none linked.slots newest' oldest'
        (along number (length linked.slots) linked.slots newest')
    shown_whole = IsWhole-shown laws linked_whole

    pub record Placed : Type 0 where
      pub lands : growth_left (bucket_states new.slots) + growth_left_at (bucket_states old.slots) b ≡ growth_left (bucket_states old.slots)
          → Lands before after hash pair b
      pub fits : (hash_of : K → ℕ)
          → ((hashes : ℕ → ℕ) → Fits old.slots hashes → Fits new.slots (with_hash hashes b hash))
          → KeysFit hash_of (pair_slots old.slots) → hash_of pair.0 ≡ hash → KeysFit hash_of (pair_slots linked.slots)
      pub is_linked : IsTable (bucket_states new.slots) → IsLinked after

    pub placed : Placed
    placed = record {
      lands = λ spends. record {
        first = rw (bucket_states-pair_slots old.slots) places.first;
        may = rw (bucket_states-pair_slots old.slots) may;
        slots = pairs ∙ pairs_set;
        order = whole_order laws linked_whole;
        insertions = insertions ∙ places.insertions;
        growth_left = rw (pairs, bucket_states-pair_slots new.slots, bucket_states-pair_slots old.slots) spends;
      };
      fits = λ hash_of fits was same.
          let now = rw pairs_set at (Fits-pair_slots new.slots _ (fits _ (Fits-entries old.slots _ was))) in
          rw (pairs, pairs_set)
          (KeysFit-placed hash_of (pair_slots old.slots) b hash pair (rw (length-pair_slots old.slots) within) same
          now);
      is_linked = λ table. IsLinked-view laws shown_whole (rw (same_states new.slots linked.slots pairs) table);
    }
