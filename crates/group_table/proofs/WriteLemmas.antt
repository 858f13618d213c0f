use Rattle.std.proofs.Common.{◌≡◌, ◌≢◌, ℕ, zero, suc, ◌+◌, ◌-◌, ◌<◌, ◌≤◌, max, cond, List, [], ◌∷◌, length, get_or, set}
use Rattle.std.proofs.Common.{Option}
use Rattle.std.proofs.Common.{Some, None, refl, ap, sym, ◌∙◌, arith, inl, inr, get_or-set_other, get_or-set_same}
use Rattle.std.proofs.Common.{length-set}
use Rattle.std.proofs.lemmas.Bool.{lt-ltb, le-ltb, cases_eq}
use native.Mathlib.Decide.{dec_lt}
use Rattle.std.proofs.lemmas.List.{set-get_or, set_past}
use Rattle.group_table.specs.Bucket.{Slot, empty, deleted, bucket_at, is_full, is_used, entry_count}
use Rattle.group_table.specs.Layout.{slot_of, slots_of, byte_of, byte_at, Agrees, IsLaidOut, IsValid, written}
use Rattle.group_table.proofs.BucketLemmas.{bucket_at-set_same, bucket_at-set_other, count_by-set}
use Rattle.group_table.proofs.LayoutLemmas.{length-laid_out, slots_of-set}

module _ {T : Type 0} where
  slots_of-set_past : (bytes : List ℕ) (entries : List (Option T)) (m y : ℕ) → length entries ≤ m
      → slots_of (set bytes m y) entries ≡ slots_of bytes entries
  slots_of-set_past bytes [] m y p = refl
  slots_of-set_past [] (e ∷ entries) m y p = refl
  slots_of-set_past (b ∷ bytes) (e ∷ entries) zero y p = absurd (omega arith)
  slots_of-set_past (b ∷ bytes) (e ∷ entries) (suc m) y p =
      ap (λ s. slot_of b e ∷ s) (slots_of-set_past bytes entries m y (omega arith))

  pub slots_of-written : (control : List ℕ) (entries : List (Option T)) (b byte : ℕ) (e : Option T)
      → slots_of (written control entries b byte) (set entries b e) ≡ set (slots_of control entries) b (slot_of byte e)
  slots_of-written control entries b byte e =
      slots_of-set_past (set control b byte) (set entries b e) (b + max 16 (length entries)) byte
      (omega (arith, length-set entries b e)) ∙ slots_of-set control entries b byte e

  byte_of-slot_of : (byte : ℕ) (e : Option T) → Agrees byte e → byte_of (slot_of byte e) ≡ byte
  byte_of-slot_of byte (Some entry) p = refl
  byte_of-slot_of byte None (inl p) = rw p
  byte_of-slot_of byte None (inr p) = rw p

  module _ (slots : List (Slot T)) (p : ℕ) where
    pub byte_at-bucket : p < length slots → byte_at slots p ≡ byte_of (bucket_at slots p)
    byte_at-bucket h = rw (lt-ltb p (length slots) h)

    pub byte_at-between : length slots ≤ p → p < 16 → byte_at slots p ≡ 255
    byte_at-between h q = rw (le-ltb p (length slots) h, lt-ltb p 16 q)

    pub byte_at-again : length slots ≤ p → 16 ≤ p
        → byte_at slots p ≡ byte_of (bucket_at slots (p - max 16 (length slots)))
    byte_at-again h q = rw (le-ltb p (length slots) h, le-ltb p 16 q)

  pub byte_at-same : (old new : List (Slot T)) → length new ≡ length old → (p : ℕ)
      → byte_of (bucket_at new p) ≡ byte_of (bucket_at old p)
      → (16 ≤ p → length old ≤ p → byte_of (bucket_at new (p - max 16 (length old))) ≡ byte_of
      (bucket_at old (p - max 16 (length old)))) → byte_at new p ≡ byte_at old p
  byte_at-same old new same p here again =
      elim (dec_lt p (length old)) [
        | yes q ↦ byte_at-bucket new p (omega arith) ∙ here ∙ sym (byte_at-bucket old p q)
        | no q ↦ elim (dec_lt p 16) [
          | yes r ↦ byte_at-between new p (omega arith) r ∙ sym (byte_at-between old p (omega arith) r)
          | no r ↦
              byte_at-again new p (omega arith) (omega arith) ∙ ap (λ n. byte_of (bucket_at new (p - max 16 n))) same
              ∙ again (omega arith) (omega arith)
              ∙ sym (byte_at-again old p (omega arith) (omega arith))
        ]
      ]

  byte_at-other : (slots : List (Slot T)) (b p : ℕ) (s : Slot T) → p ≢ b → p ≢ b + max 16 (length slots)
      → byte_at (set slots b s) p ≡ byte_at slots p
  byte_at-other slots b p s h k =
      byte_at-same slots (set slots b s) (length-set slots b s) p (ap byte_of (bucket_at-set_other slots b p s h))
      (λ low past.
      let there : p - max 16 (length slots) ≢ b = λ e. k (omega arith) in
      ap byte_of (bucket_at-set_other slots b _ s there))

  pub written-same : (control : List ℕ) (entries : List (Option T)) → IsLaidOut control entries → (b : ℕ)
      → b < length entries → written control entries b (get_or control b 0) ≡ control
  written-same control entries laid_out b within =
      let again : ℕ = b + max 16 (length entries) in
      let same = length-laid_out control entries laid_out in
      let wide : length control ≡ length entries + 16 =
      elim laid_out.counts [ inl w ↦ absurd (omega arith) | inr w ↦ w.1 ] in
      let there : get_or control b 0 ≡ byte_of (bucket_at (slots_of control entries) b) =
      laid_out.bytes b (omega (arith, wide)) ∙ byte_at-bucket (slots_of control entries) b (omega (arith, same)) in
      ap (λ all. set all again (get_or control b 0)) (set-get_or control b 0) ∙ elim (dec_lt again (length control)) [
        | yes q ↦
            let back : again - max 16 (length (slots_of control entries)) ≡ b = rw same (omega arith) in
            let repeated : get_or control again 0 ≡ get_or control b 0 =
            laid_out.bytes again q ∙ byte_at-again (slots_of control entries) again (omega (arith, same)) (omega arith)
            ∙ ap (λ k. byte_of (bucket_at (slots_of control entries) k)) back ∙ sym there in
            ap (set control again) (sym repeated) ∙ set-get_or control again 0
        | no q ↦ set_past control again (get_or control b 0) (omega arith)
      ]

module _ {T : Type 0} (control : List ℕ) (entries : List (Option T)) (laid_out : IsLaidOut control entries) (b byte : ℕ)
    (e : Option T) (within : b < length entries) (agrees : Agrees byte e) where
  control_is : length control ≡ length entries + 16
  control_is = elim laid_out.counts [ inl w ↦ absurd (omega arith) | inr w ↦ w.1 ]

  length-written : length (written control entries b byte) ≡ length control
  length-written = length-set (set control b byte) (b + max 16 (length entries)) byte ∙ length-set control b byte

  written_at : (p : ℕ) → p ≡ b → get_or (written control entries b byte) p 0 ≡ byte
  written_at p h =
      rw (get_or-set_other (set control b byte) (b + max 16 (length entries)) p byte 0 (λ k. omega arith), h)
      (get_or-set_same control b byte 0 (omega (arith, control_is)))

  written_again : (p : ℕ) → p ≡ b + max 16 (length entries) → p < length control
      → get_or (written control entries b byte) p 0 ≡ byte
  written_again p h q =
      rw (← h) (get_or-set_same (set control b byte) p byte 0 (omega (arith, length-set control b byte)))

  written_other : (p : ℕ) → p ≢ b → p ≢ b + max 16 (length entries)
      → get_or (written control entries b byte) p 0 ≡ get_or control p 0
  written_other p h k =
      get_or-set_other (set control b byte) (b + max 16 (length entries)) p byte 0 k
      ∙ get_or-set_other control b p byte 0 h

  same_length : length (slots_of control entries) ≡ length entries
  same_length = length-laid_out control entries laid_out

  new_slot : (p : ℕ) → p ≡ b → bucket_at (set (slots_of control entries) b (slot_of byte e)) p ≡ slot_of byte e
  new_slot p h = rw h (get_or-set_same (slots_of control entries) b (slot_of byte e) empty (omega (arith, same_length)))

  new_bytes : (p : ℕ) → p < length control → get_or (written control entries b byte) p 0
      ≡ byte_at (set (slots_of control entries) b (slot_of byte e)) p
  new_bytes p q =
      elim (cases_eq p b) [
        | inl h ↦
            let in_new : p < length (set (slots_of control entries) b (slot_of byte e)) =
            omega (arith, length-set (slots_of control entries) b (slot_of byte e), same_length) in
            written_at p h ∙ sym
            (byte_at-bucket (set (slots_of control entries) b (slot_of byte e)) p in_new ∙ ap byte_of (new_slot p h)
            ∙ byte_of-slot_of byte e agrees)
        | inr h ↦ elim (cases_eq p (b + max 16 (length entries))) [
          | inl k ↦
              let past : length (set (slots_of control entries) b (slot_of byte e)) ≤ p =
              omega (arith, length-set (slots_of control entries) b (slot_of byte e), same_length) in
              let back : p - max 16 (length (set (slots_of control entries) b (slot_of byte e))) ≡ b =
              rw (length-set (slots_of control entries) b (slot_of byte e), same_length) (omega arith) in
              written_again p k q ∙ sym
              (byte_at-again (set (slots_of control entries) b (slot_of byte e)) p past (omega arith)
              ∙ ap byte_of (new_slot _ back) ∙ byte_of-slot_of byte e agrees)
          | inr k ↦ written_other p h k ∙ laid_out.bytes p q
              ∙ sym (byte_at-other (slots_of control entries) b p (slot_of byte e) h (rw same_length k))
        ]
      ]

  new_agrees : (k : ℕ) → k < length entries → Agrees (get_or (written control entries b byte) k 0)
      (get_or (set entries b e) k None)
  new_agrees k q =
      elim (cases_eq k b) [
        | inl h ↦ rw (written_at k h, h, get_or-set_same entries b e None within) agrees
        | inr h ↦ rw (written_other k h (λ w. omega arith), get_or-set_other entries b k e None h) (laid_out.agrees k q)
      ]

  pub IsLaidOut-written : IsLaidOut (written control entries b byte) (set entries b e)
  IsLaidOut-written = record {
    counts = rw (length-written, length-set entries b e) laid_out.counts;
    fits = rw length-written laid_out.fits;
    agrees = λ k q. new_agrees k (omega (arith, length-set entries b e));
    bytes = λ p q. rw (slots_of-written control entries b byte e) (new_bytes p (rw length-written at q));
  }

module _ {T : Type 0} (control : List ℕ) (entries : List (Option T)) (r : ℕ) (valid : IsValid control entries r)
    (b byte : ℕ) (e : Option T) (within : b < length entries)
    (agrees : Agrees byte e) where
  in_slots : b < length (slots_of control entries)
  in_slots = omega (arith, within, length-laid_out control entries valid.laid_out)

  none_deleted_left : (length entries ≤ 16 → slot_of byte e ≢ deleted) → length entries ≤ 16 → (k : ℕ)
      → bucket_at (set (slots_of control entries) b (slot_of byte e)) k ≡ deleted → length entries ≡ 0
  none_deleted_left kept small k h =
      elim (cases_eq k b) [
        | inl same ↦ absurd
            (kept small (sym (bucket_at-set_same (slots_of control entries) b k (slot_of byte e) same in_slots) ∙ h))
        | inr other ↦ valid.none_deleted small k
            (sym (bucket_at-set_other (slots_of control entries) b k (slot_of byte e) other) ∙ h)
      ]

  pub IsValid-written : (left : ℕ) → cond (is_used (bucket_at (slots_of control entries) b)) 1 0 + r
      ≡ cond (is_used (slot_of byte e)) 1 0 + left
      → (length entries ≤ 16 → slot_of byte e ≢ deleted)
      → IsValid (written control entries b byte) (set entries b e) left
  IsValid-written left counted kept = record {
    laid_out = IsLaidOut-written control entries valid.laid_out b byte e within agrees;
    room_left =
        rw (slots_of-written control entries b byte e, length-set entries b e)
        (omega (
          arith,
          count_by-set is_used (slots_of control entries) b
              (slot_of byte e) in_slots,
          counted,
          valid.room_left,
        ));
    none_deleted = rw (slots_of-written control entries b byte e, length-set entries b e) (none_deleted_left kept);
  }

  pub entry_count-written : entry_count (slots_of (written control entries b byte) (set entries b e)) + cond
      (is_full (bucket_at (slots_of control entries) b)) 1 0
      ≡ entry_count (slots_of control entries) + cond (is_full (slot_of byte e)) 1 0
  entry_count-written =
      rw (slots_of-written control entries b byte e)
      (count_by-set is_full (slots_of control entries) b (slot_of byte e) in_slots)
