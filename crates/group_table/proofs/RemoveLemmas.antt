use Rattle.std.proofs.Common.{◌≡◌, ℕ, ◌+◌, ◌-◌, ◌^◌, ◌%◌, ◌<◌, ◌≤◌, Bool, true, false, cond, List, length, set}
use Rattle.std.proofs.Common.{Option, None}
use Rattle.std.proofs.Common.{refl, ap, sym, ◌∙◌, arith, inl, inr, count_by, MatchBool}
use Rattle.std.proofs.Math.Nat.{mod-add-mod, mod-lt}
use mir.Val.{bool_byte}
use Rattle.group_table.specs.Bucket.{Slot, Tagged, BucketState, empty, deleted, bucket_at, is_used, is_full, IsFull, IsEmpty}
use Rattle.group_table.specs.Bucket.{entry_count, growth_left, growth_left_at}
use Rattle.group_table.specs.Neighbours.{HasEmptyNeighbours, IsHemmedIn}
use Rattle.group_table.specs.Change.{Removes}
use Rattle.group_table.specs.Layout.{slot_of, slots_of, states_by, IsLaidOut, IsValid, written}
use Rattle.group_table.specs.Group.{IsEmptyAt}
use Rattle.group_table.proofs.BucketLemmas.{some_empty, used_from_full, count_by-pos, empty_not_deleted}
use Rattle.group_table.proofs.BucketLemmas.{bucket_at-set_same, bucket_at-bucket_states, bucket_state-used}
use Rattle.group_table.proofs.Circle.{distance}
use Rattle.group_table.proofs.LayoutLemmas.{length-laid_out, length-states_by, full_within, state_from_byte}
use Rattle.group_table.proofs.LayoutLemmas.{byte_from_state}
use Rattle.group_table.proofs.TableLemmas.{used_lt, room_by}
use Rattle.group_table.proofs.WriteLemmas.{slots_of-written, IsValid-written, entry_count-written}

pub room_gained : (gives : Bool) (growth_left ones : ℕ) → ones ≡ cond gives (2 ^ 64 - 1) 0 → growth_left < 2 ^ 64 - 1
    → (growth_left + (2 ^ 64 - ones)) % 2 ^ 64 ≡ growth_left + bool_byte gives
room_gained true growth_left ones all small = omega (arith, all)
room_gained false growth_left ones none small = omega (arith, none)

hemmed_in_small : (states : List BucketState) (b : ℕ) → IsHemmedIn (IsEmpty states) (length states) b → length states ≤ 16
    → count_by is_used states < length states → ⊥
hemmed_in_small states b hemmed p q =
    let w = some_empty states q in
    let pos : 0 < length states = omega arith in
    let d = distance (length states) (hemmed.start % length states) w.0 (mod-lt hemmed.start pos) w.1 in
    hemmed.none_empty d.0 (omega (arith, d.1)) (rw (sym (mod-add-mod hemmed.start (length states) d.0) ∙ d.2) w.2)

module _ {T : Type 0} (control : List ℕ) (entries : List (Option T)) (laid_out : IsLaidOut control entries) (b : ℕ)
    (pos : 0 < length entries) where
  HasEmptyNeighbours-from_bytes : HasEmptyNeighbours (IsEmptyAt control) (length entries) b
      → HasEmptyNeighbours (IsEmpty (states_by control entries)) (length (states_by control entries)) b
  HasEmptyNeighbours-from_bytes h start at p e =
      let same = length-states_by control entries laid_out in
      let w = h start at p (rw same at e) in
      (w.0, w.1, rw same (state_from_byte control entries laid_out _ (mod-lt (start + w.0) pos) w.2))

  IsHemmedIn-from_bytes : IsHemmedIn (IsEmptyAt control) (length entries) b
      → IsHemmedIn (IsEmpty (states_by control entries)) (length (states_by control entries)) b
  IsHemmedIn-from_bytes h =
      let same = length-states_by control entries laid_out in
      record {
        start = h.start;
        at = h.at;
        within = h.within;
        there = rw same h.there;
        none_empty = λ lane p e. h.none_empty lane p
            (byte_from_state control entries laid_out _ (mod-lt (h.start + lane) pos) (rw same at e));
      }

module _ {T : Type 0} (control : List ℕ) (entries : List (Option T)) (r : ℕ) (valid : IsValid control entries r) (b : ℕ)
    (there : IsFull (slots_of control entries) b) where
  within : b < length entries
  within = full_within control entries valid.laid_out b there

  one_used : ◌≡◌ {A = ℕ} (cond (is_used (bucket_at (slots_of control entries) b)) 1 0) 1
  one_used = ap (λ t. cond {A = ℕ} t 1 0) (used_from_full (bucket_at (slots_of control entries) b) there)

  one_full : ◌≡◌ {A = ℕ} (cond (is_full (bucket_at (slots_of control entries) b)) 1 0) 1
  one_full = ap (λ t. cond {A = ℕ} t 1 0) there

  pub record Removed (byte gained : ℕ) : Type 0 where
    pub is_valid : IsValid (written control entries b byte) (set entries b None) (r + gained)
    pub count : entry_count (slots_of (written control entries b byte) (set entries b None)) + 1
        ≡ entry_count (slots_of control entries)
    pub removes : Removes (slots_of control entries) (slots_of (written control entries b byte) (set entries b None)) b
    pub gained_there : growth_left_at (states_by (written control entries b byte) (set entries b None)) b ≡ gained

  counts_as : (byte : ℕ) (s : Slot T) → slot_of byte None ≡ s
      → growth_left_at (states_by (written control entries b byte) (set entries b None)) b ≡ cond (is_used s) 0 1
  counts_as byte s is =
      let in_slots : b < length (slots_of control entries) =
      omega (arith, within, length-laid_out control entries valid.laid_out) in
      let new = slots_of (written control entries b byte) (set entries b None) in
      let there_now : bucket_at new b ≡ s =
      ap (λ xs. bucket_at xs b) (slots_of-written control entries b byte None)
      ∙ bucket_at-set_same (slots_of control entries) b b (slot_of byte None) refl in_slots ∙ is in
      ap (λ m. cond {A = ℕ} (is_used m) 0 1) (bucket_at-bucket_states new b)
      ∙ ap (λ t. cond {A = ℕ} t 0 1) (bucket_state-used (bucket_at new b) ∙ ap is_used there_now)

  pub removed : (gives_room : Bool)
      → MatchBool gives_room (HasEmptyNeighbours (IsEmptyAt control) (length entries) b)
      (IsHemmedIn (IsEmptyAt control) (length entries) b)
      → Removed (cond gives_room 255 128) (bool_byte gives_room)
  removed true h = record {
    is_valid = IsValid-written control entries r valid b 255 None within (inr refl) (r + 1) (omega (arith, one_used))
        (λ small e. empty_not_deleted {A = Tagged T} empty refl e);
    count = omega (arith, one_full, entry_count-written control entries r valid b 255 None within (inr refl));
    removes = inl (
      HasEmptyNeighbours-from_bytes control entries valid.laid_out b
          (omega (arith, within)) h,
      slots_of-written control entries b 255 None,
    );
    gained_there = counts_as 255 empty refl;
  }
  removed false h =
      let pos : 0 < length entries = omega (arith, within) in
      let hemmed = IsHemmedIn-from_bytes control entries valid.laid_out b pos h in
      let same = length-states_by control entries valid.laid_out in
      record {
        is_valid =
            IsValid-written control entries r valid b 128 None within
            (inl refl) (r + 0) (omega (arith, one_used))
            (λ small e. hemmed_in_small (states_by control entries) b hemmed (omega (arith, same, small))
            (omega (arith, same, used_lt control entries r valid pos)));
        count = omega (arith, one_full, entry_count-written control entries r valid b 128 None within (inl refl));
        removes = inr (hemmed, slots_of-written control entries b 128 None);
        gained_there = counts_as 128 deleted refl;
      }

  pub entry_count-pos : 0 < entry_count (slots_of control entries)
  entry_count-pos =
      count_by-pos is_full (slots_of control entries) b
      (omega (arith, within, length-laid_out control entries valid.laid_out)) there

  pub growth_left-removed : (byte gained : ℕ) → Removed byte gained
      → growth_left (states_by (written control entries b byte) (set entries b None))
      ≡ growth_left (states_by control entries) + growth_left_at (states_by (written control entries b byte) (set entries b None)) b
  growth_left-removed byte gained w = omega (arith, w.gained_there, room_by _ _ _ w.is_valid, room_by control entries r valid)
