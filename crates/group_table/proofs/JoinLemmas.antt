-- An entry is inserted into a table with growth left and no deleted bucket.
use Rattle.std.proofs.Common.{◌≡◌, ◌≢◌, ℕ, ◌+◌, ◌-◌, ◌<◌, ◌⊎◌, cond, List, length, get_or, set, Option, Some, None}
use Rattle.std.proofs.Common.{refl, ap, ◌∙◌, arith, inl, inr, count_by, length-set}
use Rattle.group_table.specs.Sizes.{full_capacity}
use Rattle.group_table.specs.Bucket.{Slot, empty, deleted, full, bucket_at, is_full, is_deleted, entry_of, entry_at}
use Rattle.group_table.specs.Bucket.{entry_count}
use Rattle.group_table.specs.Probe.{hash_tag, probed, IsFirst}
use Rattle.group_table.specs.Layout.{slots_of, IsValid, written}
use Rattle.group_table.specs.Control.{buckets_of}
use Rattle.group_table.specs.Group.{full_at}
use Rattle.group_table.specs.Moves.{Joins}
use Rattle.group_table.proofs.SizeLemmas.{full_capacity-small, power_pos}
use Rattle.group_table.proofs.BucketLemmas.{used_count-split, count_by-pos, count_by-set, bucket_at-set_same}
use Rattle.group_table.proofs.BucketLemmas.{bucket_at-set_other}
use Rattle.group_table.proofs.ControlLemmas.{buckets_are}
use Rattle.group_table.proofs.ProbeLemmas.{probed-lt}
use Rattle.group_table.proofs.LayoutLemmas.{length-laid_out, length-states_by, bucket_at-laid_out}
use Rattle.group_table.proofs.WriteLemmas.{slots_of-written}
use Rattle.group_table.proofs.PlaceLemmas.{Spends, IsFreeFor, place_reached, free_slot, IsValid-placed}
use Rattle.group_table.proofs.PlaceLemmas.{entry_count-placed}

module _ {T : Type 0} (control : List ℕ) (entries : List (Option T)) (r : ℕ) (valid : IsValid control entries r)
    (none_deleted : count_by is_deleted (slots_of control entries) ≡ 0)
    (less : entry_count (slots_of control entries) < full_capacity (length (slots_of control entries))) where
  capacity : full_capacity (length (slots_of control entries)) ≡ full_capacity (length entries)
  capacity = ap full_capacity (length-laid_out control entries valid.laid_out)

  pub some_room : 0 < r
  some_room = omega (arith, less, none_deleted, capacity, used_count-split (slots_of control entries), valid.room_left)

  pub some_buckets : 0 < length entries
  some_buckets = elim valid.laid_out.counts [
    | inl w ↦ let none : full_capacity (length entries) ≡ full_capacity 0 = ap full_capacity w.0 in
        absurd (omega (arith, less, capacity, none, full_capacity-small 0 (omega arith)))
    | inr w ↦ omega (arith, power_pos (length entries) w.0)
  ]

  pub first_reached : (hash b : ℕ) → IsFirst (full_at control) (probed (buckets_of control) hash) b
      → IsFreeFor control entries hash b
  first_reached hash b first =
      place_reached valid hash b (omega (arith, some_buckets, buckets_are control entries valid.laid_out)) first

  module _ (hash b : ℕ) (reached : IsFreeFor control entries hash b) where
    pub join_within : b < length entries
    join_within =
        let there : probed (length entries) hash reached.0.step ≡ b =
        rw (length-states_by control entries valid.laid_out) at reached.0.there in
        rw (← there) (probed-lt (length entries) hash reached.0.step some_buckets)

    free_there : ((bucket_at (slots_of control entries) b ≡ empty) ⊎ (bucket_at (slots_of control entries) b ≡ deleted))
        × (get_or entries b None ≡ None)
    free_there = rw (bucket_at-laid_out control entries valid.laid_out b join_within)
        (free_slot _ _ (valid.laid_out.agrees b join_within) reached.1)

    pub join_none : get_or entries b None ≡ None
    join_none = free_there.1

    in_slots : b < length (slots_of control entries)
    in_slots = omega (arith, join_within, length-laid_out control entries valid.laid_out)

    join_empty : bucket_at (slots_of control entries) b ≡ empty
    join_empty = elim free_there.0 [
      | inl e ↦ e
      | inr e ↦ absurd
          (omega (arith, none_deleted, count_by-pos is_deleted (slots_of control entries) b in_slots (ap is_deleted e)))
    ]

    spends : Spends (bucket_at (slots_of control entries) b) r 1
    spends = inl (join_empty, some_room, refl)

    module _ (tag : ℕ) (entry : T) (tag_fits : tag < 128) where
      pub IsValid-joined : IsValid (written control entries b tag) (set entries b (Some entry)) (r - 1)
      IsValid-joined = IsValid-placed valid b spends tag entry join_within tag_fits

      pub entry_count-written_joined : entry_count
          (slots_of (written control entries b tag) (set entries b (Some entry)))
          ≡ entry_count (slots_of control entries) + 1
      entry_count-written_joined = entry_count-placed valid b spends tag entry join_within tag_fits

      pub joins_there : tag ≡ hash_tag hash → Joins (slots_of control entries)
          (slots_of (written control entries b tag) (set entries b (Some entry))) hash entry b
      joins_there is = record {
        reached = reached.0;
        within = in_slots;
        was_empty = join_empty;
        slots = slots_of-written control entries b tag (Some entry)
            ∙ ap (λ t. set (slots_of control entries) b (full (record { tag = t; entry = entry }))) is;
      }

module _ {T : Type 0} {old new : List (Slot T)} {hash : ℕ} {entry : T} {b : ℕ}
    (joins : Joins old new hash entry b) where
  abbrev filled : Slot T
  filled = full (record { tag = hash_tag hash; entry = entry })

  pub length-joined : length new ≡ length old
  length-joined = ap length joins.slots ∙ length-set old b _

  pub entry_at-joined : entry_at new b ≡ Some entry
  entry_at-joined =
      ap entry_of (ap (λ xs. bucket_at xs b) joins.slots ∙ bucket_at-set_same old b b filled refl joins.within)

  pub entry_count-joined : entry_count new ≡ entry_count old + 1
  entry_count-joined =
      let none : ◌≡◌ {A = ℕ} (cond (is_full (bucket_at old b)) 1 0) 0 =
      ap (λ s. cond {A = ℕ} (is_full s) 1 0) joins.was_empty in
      ap entry_count joins.slots ∙ omega (arith, count_by-set is_full old b filled joins.within, none)

  pub bucket_at-joined_other : (k : ℕ) → k ≢ b → bucket_at new k ≡ bucket_at old k
  bucket_at-joined_other k other = ap (λ xs. bucket_at xs k) joins.slots ∙ bucket_at-set_other old b k filled other

  pub deleted_count-joined : count_by is_deleted new ≡ count_by is_deleted old
  deleted_count-joined =
      let none : ◌≡◌ {A = ℕ} (cond (is_deleted (bucket_at old b)) 1 0) 0 =
      ap (λ s. cond {A = ℕ} (is_deleted s) 1 0) joins.was_empty in
      ap (count_by is_deleted) joins.slots ∙ omega (arith, count_by-set is_deleted old b filled joins.within, none)
