use Rattle.std.proofs.Common.{◌≡◌, ℕ, zero, suc, ◌<◌, List, [], ◌∷◌, length, get_or}
use Rattle.std.proofs.Common.{Option, Some, None, Result, refl, ap, sym, ◌∙◌, subst}
use Rattle.std.proofs.Common.{arith, count_by, cond, nat_eq, true, false, Bool, replicate}
use Rattle.std.specs.List.{AllZip}
use Rattle.std.proofs.lemmas.List.Elements.{length_all_zip, AllZip-get_or}
use Rattle.std.specs.declared.alloc.AllocError.{AllocError}
use Rattle.std.specs.Borrow.{Bor}
use Rattle.std.specs.Fn.{Shared}
use Rattle.group_table.specs.Bucket.{Slot, Tagged, empty, deleted, full, bucket_at, is_used, is_full, entry_count}
use Rattle.group_table.specs.Bucket.{bucket_state, bucket_states}
use Rattle.group_table.specs.Fits.{Fits}
use Rattle.group_table.specs.Layout.{slot_of, slots_of, byte_of, Agrees, IsValid}
use Rattle.group_table.specs.Copies.{IsCopyOf, Copies, IsPlaceCopy}
use Rattle.group_table.proofs.BucketLemmas.{empty_not_full, empty_not_deleted, full_not_deleted, used_count-bucket_states}
use Rattle.group_table.proofs.BucketLemmas.{entry_count-bucket_states, is_full-bucket_states}
use Rattle.group_table.proofs.FitsLemmas.{one_held}
use Rattle.group_table.proofs.WriteLemmas.{byte_at-same}

module _ {T F : Type 0} (closure : Shared F (Bor T × Unit {0}) (Result T AllocError)) (f : F) where
  free_copy : (t : Bool) → IsCopyOf closure f (cond t deleted empty) (cond t deleted empty)
  free_copy true = refl
  free_copy false = refl

  slot_copy : (byte : ℕ) (x y : Option T) → IsPlaceCopy closure f x y
      → IsCopyOf closure f (slot_of byte x) (slot_of byte y)
  slot_copy byte None y h = rw h (free_copy (nat_eq byte 128))
  slot_copy byte (Some entry) y h = (h.0, h.1, ap (slot_of byte) h.2)

  pub none_at : (n b : ℕ) → get_or {A = Option T} (replicate n None) b None ≡ None
  none_at zero b = refl
  none_at (suc n) zero = refl
  none_at (suc n) (suc b) = none_at n b

  pub copy_agrees : (byte : ℕ) (x y : Option T) → IsPlaceCopy closure f x y → Agrees byte x → Agrees byte y
  copy_agrees byte None y h agrees = subst (Agrees byte) (sym h) agrees
  copy_agrees byte (Some entry) y h agrees = subst (Agrees byte) (sym h.2) agrees

  pub place_copies : (xs ys : List (Option T)) → length ys ≡ length xs
      → ((b : ℕ) → b < length xs → IsPlaceCopy closure f (get_or xs b None) (get_or ys b None))
      → AllZip (IsPlaceCopy closure f) xs ys
  place_copies [] [] same each = tt
  place_copies [] (y ∷ ys) same each = absurd (omega arith)
  place_copies (x ∷ xs) [] same each = absurd (omega arith)
  place_copies (x ∷ xs) (y ∷ ys) same each =
      (each 0 (omega arith), place_copies xs ys (omega arith) (λ b within. each (suc b) (omega arith)))

  pub Copies-places : (bytes : List ℕ) (xs ys : List (Option T)) → AllZip (IsPlaceCopy closure f) xs ys
      → Copies closure f (slots_of bytes xs) (slots_of bytes ys)
  Copies-places bytes [] [] h = tt
  Copies-places bytes [] (y ∷ ys) h = absurd h
  Copies-places bytes (x ∷ xs) [] h = absurd h
  Copies-places [] (x ∷ xs) (y ∷ ys) h = tt
  Copies-places (byte ∷ bytes) (x ∷ xs) (y ∷ ys) h = (slot_copy byte x y h.0, Copies-places bytes xs ys h.1)

  copy_each : (old new : List (Slot T)) → Copies closure f old new → (b : ℕ)
      → IsCopyOf closure f (bucket_at old b) (bucket_at new b)
  copy_each [] [] h b = refl
  copy_each [] (n ∷ new) h b = absurd h
  copy_each (s ∷ old) [] h b = absurd h
  copy_each (s ∷ old) (n ∷ new) h zero = h.0
  copy_each (s ∷ old) (n ∷ new) h (suc b) = copy_each old new h.1 b

  byte_of-copy : (s n : Slot T) → IsCopyOf closure f s n → byte_of n ≡ byte_of s
  byte_of-copy empty n h = ap byte_of h
  byte_of-copy deleted n h = ap byte_of h
  byte_of-copy (full held) n h = ap byte_of h.2

  bucket_state-copy : (s n : Slot T) → IsCopyOf closure f s n → bucket_state n ≡ bucket_state s
  bucket_state-copy empty n h = ap bucket_state h
  bucket_state-copy deleted n h = ap bucket_state h
  bucket_state-copy (full held) n h = ap bucket_state h.2

  pub bucket_states-copies : (old new : List (Slot T)) → Copies closure f old new → bucket_states new ≡ bucket_states old
  bucket_states-copies [] [] h = refl
  bucket_states-copies [] (n ∷ new) h = absurd h
  bucket_states-copies (s ∷ old) [] h = absurd h
  bucket_states-copies (s ∷ old) (n ∷ new) h =
      ap (λ m. m ∷ bucket_states new) (bucket_state-copy s n h.0) ∙ ap (λ ms. bucket_state s ∷ ms) (bucket_states-copies old new h.1)

  was_full : (s n : Slot T) (held : Tagged T) → IsCopyOf closure f s n → n ≡ full held → (was : Tagged T)
      × (s ≡ full was) × (held.tag ≡ was.tag)
  was_full empty n held h e = absurd (empty_not_full n h (ap is_full e))
  was_full deleted n held h e = absurd (full_not_deleted n (ap is_full e) h)
  was_full (full was) n held h e = (was, refl, ap (λ x. x.tag) (one_held n held (record was { entry = h.0 }) e h.2))

  was_deleted : (s n : Slot T) → IsCopyOf closure f s n → n ≡ deleted → s ≡ deleted
  was_deleted empty n h e = absurd (empty_not_deleted n h e)
  was_deleted deleted n h e = refl
  was_deleted (full was) n h e = absurd (full_not_deleted n (ap is_full h.2) e)

  pub Fits-copies : (old new : List (Slot T)) (hash_of : ℕ → ℕ) → Copies closure f old new → Fits old hash_of
      → Fits new hash_of
  Fits-copies old new hash_of h fits =
      let states = bucket_states-copies old new h in
      record {
        tags = λ b held e. let w = was_full (bucket_at old b) (bucket_at new b) held (copy_each old new h b) e in
            w.2 ∙ fits.tags b w.0 w.1;
        reached = λ b there. rw states
            (fits.reached b
            (sym (is_full-bucket_states old b) ∙ ap (λ ms. is_full (bucket_at ms b)) (sym states) ∙ is_full-bucket_states new b
            ∙ there));
      }

  agrees_copy : (byte : ℕ) (x y : Option T) → IsPlaceCopy closure f x y → Agrees byte x → Agrees byte y
  agrees_copy byte None y h agrees = rw h agrees
  agrees_copy byte (Some entry) y h agrees = rw h.2 agrees

  module _ {control : List ℕ} {entries : List (Option T)} (copies : List (Option T)) {r : ℕ}
      (valid : IsValid control entries r)
      (h : AllZip (IsPlaceCopy closure f) entries copies) where
    same_length : length copies ≡ length entries
    same_length = sym (length_all_zip (IsPlaceCopy closure f) entries copies h)

    copied : Copies closure f (slots_of control entries) (slots_of control copies)
    copied = Copies-places control entries copies h

    states : bucket_states (slots_of control copies) ≡ bucket_states (slots_of control entries)
    states = bucket_states-copies _ _ copied

    same_slots : length (slots_of control copies) ≡ length (slots_of control entries)
    same_slots = sym (length_all_zip (IsCopyOf closure f) _ _ copied)

    pub entry_count-copied : entry_count (slots_of control copies) ≡ entry_count (slots_of control entries)
    entry_count-copied =
        sym (entry_count-bucket_states (slots_of control copies)) ∙ ap entry_count states
        ∙ entry_count-bucket_states (slots_of control entries)

    used_same : count_by is_used (slots_of control copies) ≡ count_by is_used (slots_of control entries)
    used_same = sym (used_count-bucket_states (slots_of control copies)) ∙ ap (count_by is_used) states
        ∙ used_count-bucket_states (slots_of control entries)

    same_byte : (k : ℕ) → byte_of (bucket_at (slots_of control copies) k)
        ≡ byte_of (bucket_at (slots_of control entries) k)
    same_byte k = byte_of-copy _ _ (copy_each _ _ copied k)

    pub IsValid-copied : IsValid control copies r
    IsValid-copied = record {
      laid_out = record {
        counts = rw same_length valid.laid_out.counts;
        fits = valid.laid_out.fits;
        agrees = λ b within. agrees_copy _ _ _
            (AllZip-get_or (IsPlaceCopy closure f) entries copies b None None h (omega (arith, same_length)))
            (valid.laid_out.agrees b (omega (arith, same_length)));
        bytes = λ p within. valid.laid_out.bytes p within
            ∙ sym (byte_at-same (slots_of control entries) (slots_of control copies) same_slots p (same_byte p)
            (λ low past. same_byte _));
      };
      room_left = rw (same_length, used_same) valid.room_left;
      none_deleted = λ small b e. rw same_length
          (valid.none_deleted (omega (arith, same_length)) b (was_deleted _ _ (copy_each _ _ copied b) e));
    }
