use Rattle.std.proofs.Common.{◌≡◌, ℕ, ◌+◌, List, length, ◌∙◌}
use Rattle.group_table.specs.Link.{IsLinkType}
use Rattle.group_table.specs.Bucket.{Slot, IsFull, bucket_states, growth_left, growth_left_at}
use Rattle.group_table.specs.Change.{Removes}
use Rattle.group_table.specs.Fits.{Fits}
use Rattle.ordered_table.specs.declared.linked.Entry.{Entry}
use Rattle.ordered_table.specs.OrderedTable.{KeysFit, without_bucket}
use Rattle.ordered_table.specs.Chain.{pair_slots, along, IsChain, IsWhole}
use Rattle.ordered_table.proofs.Tables.PairSlots.{bucket_states-pair_slots, is_full-pair_slots, Removes-pair_slots}
use Rattle.ordered_table.proofs.Tables.PairSlots.{Fits-pair_slots, Fits-entries}
use Rattle.ordered_table.proofs.Tables.KeyHashes.{KeysFit-removed}
use Rattle.ordered_table.proofs.Chains.WholeChains.{whole_order, IsWhole-shown, IsWhole-taken}

module _ {K V N : Type 0} (s0 s1 s2 : List (Slot (Entry K V N))) (b : ℕ) (removes : Removes s0 s1 b)
    (same : pair_slots s2 ≡ pair_slots s1) where
  pub taken_removes : Removes (pair_slots s0) (pair_slots s2) b
  taken_removes = rw same (Removes-pair_slots s0 s1 b removes)

  pub taken_room : growth_left (bucket_states s1) ≡ growth_left (bucket_states s0) + growth_left_at (bucket_states s1) b
      → growth_left (bucket_states (pair_slots s2)) ≡ growth_left (bucket_states (pair_slots s0)) + growth_left_at (bucket_states (pair_slots s2)) b
  taken_room frees = rw (same, bucket_states-pair_slots s1, bucket_states-pair_slots s0) frees

  pub taken_fits : IsFull s0 b → ((hash_at : ℕ → ℕ) → Fits s0 hash_at → Fits s1 hash_at) → (hash_of : K → ℕ)
      → KeysFit hash_of (pair_slots s0) → KeysFit hash_of (pair_slots s2)
  taken_fits full kept hash_of fits =
      rw same (KeysFit-removed hash_of _ _ b (is_full-pair_slots s0 b ∙ full) (Removes-pair_slots s0 s1 b removes)
      (Fits-pair_slots _ _ (kept _ (Fits-entries s0 _ fits))))

  module _ {number : N → ℕ} {link : ℕ → N} {none : N} (laws : IsLinkType number link none)
      {newest oldest newest' oldest' : N} {order : List ℕ} (whole : IsWhole number link none s0 newest oldest order)
      (full : IsFull s0 b) (chain : IsChain number link none s2 newest' oldest' (without_bucket b order)) where
    pub taken_whole : IsWhole number link none s2 newest' oldest' (along number (length s2) s2 newest')
    taken_whole = IsWhole-shown laws (IsWhole-taken laws whole b full removes same chain)

    pub taken_order : along number (length s2) s2 newest' ≡ without_bucket b order
    taken_order = whole_order laws (IsWhole-taken laws whole b full removes same chain)
