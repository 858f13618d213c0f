use Rattle.std.proofs.Common.{◌≡◌, ℕ, ◌+◌, ◌≤◌, List, [], ◌∷◌, length, get_or, Option, Some, None, refl, ap, sym, ◌∙◌}
use Rattle.std.proofs.Common.{arith, count_by, cond, is_some, nat_eq, true, false}
use Rattle.std.proofs.lemmas.List.{get_or_past}
use Rattle.std.proofs.lemmas.List.Sums.{sum_by-cons}
use native.Mathlib.Decide.{dec_lt}
use Rattle.group_table.specs.Sizes.{full_capacity}
use Rattle.group_table.specs.Bucket.{Slot, deleted, empty, is_full, is_deleted, entry_of, entry_at}
use Rattle.group_table.specs.Bucket.{entry_count, bucket_states, growth_left}
use Rattle.group_table.specs.Layout.{slot_of, slots_of, IsLaidOut}
use Rattle.group_table.specs.Moves.{place_at}
use Rattle.group_table.proofs.BucketLemmas.{bucket_at-past, room_is, used_count-bucket_states, used_count-split}
use Rattle.group_table.proofs.BucketLemmas.{length-bucket_states}
use Rattle.group_table.proofs.LayoutLemmas.{bucket_at-laid_out, length-laid_out, entries_within, is_full-test}

pub growth_left-none_deleted : {T : Type 0} (slots : List (Slot T)) → count_by is_deleted slots ≡ 0
    → entry_count slots ≤ full_capacity (length slots)
    → growth_left (bucket_states slots) + entry_count slots ≡ full_capacity (length slots)
growth_left-none_deleted slots none within =
    omega (
      arith,
      none,
      within,
      room_is (bucket_states slots),
      ap full_capacity
          (length-bucket_states slots),
      used_count-bucket_states slots,
      used_count-split slots,
    )

module _ {T : Type 0} where
  entry_of-slot_of : (byte : ℕ) (place : Option T) → entry_of (slot_of byte place) ≡ place
  entry_of-slot_of byte (Some entry) = refl
  entry_of-slot_of byte None = no_entry (nat_eq byte 128)
    where
      no_entry : (t : _) → entry_of {T = T} (cond t deleted empty) ≡ None
      no_entry true = refl
      no_entry false = refl

  is_full-by_place : (byte : ℕ) (place : Option T) → is_full (slot_of byte place) ≡ is_some place
  is_full-by_place byte (Some entry) = refl
  is_full-by_place byte None = is_full-test T (nat_eq byte 128)

  entry_count-by_places : (bytes : List ℕ) (places : List (Option T)) → length places ≤ length bytes
      → entry_count (slots_of bytes places) ≡ count_by is_some places
  entry_count-by_places bytes [] p = refl
  entry_count-by_places [] (place ∷ places) p = absurd (omega arith)
  entry_count-by_places (byte ∷ bytes) (place ∷ places) p =
      let same : ◌≡◌ {A = ℕ} (cond (is_full (slot_of byte place)) 1 0) (cond (is_some place) 1 0) =
      ap (λ t. cond {A = ℕ} t 1 0) (is_full-by_place byte place) in
      omega (
        arith,
        same,
        sum_by-cons (λ s. cond {A = ℕ} (is_full s) 1 0) (slot_of byte place) (slots_of bytes places),
        sum_by-cons (λ o. cond {A = ℕ} (is_some o) 1 0) place places,
        entry_count-by_places bytes places (omega arith),
      )

module _ {T : Type 0} (control : List ℕ) (entries : List (Option T)) (laid_out : IsLaidOut control entries) where
  pub entry_count-laid_out : entry_count (slots_of control entries) ≡ count_by is_some entries
  entry_count-laid_out = entry_count-by_places control entries (entries_within control entries laid_out)

  pub entry_at-laid_out : (b : ℕ) → entry_at (slots_of control entries) b ≡ place_at entries b
  entry_at-laid_out b = elim (dec_lt b (length entries)) [
    | yes p ↦ ap entry_of (bucket_at-laid_out control entries laid_out b p)
        ∙ entry_of-slot_of (get_or control b 0) (get_or entries b None)
    | no p ↦ ap entry_of
        (bucket_at-past (slots_of control entries) b (omega (arith, length-laid_out control entries laid_out)))
        ∙ sym (get_or_past entries b None (omega arith))
  ]

  pub entries_are : entry_at (slots_of control entries) ≡ place_at entries
  entries_are = λ i b. entry_at-laid_out b i
